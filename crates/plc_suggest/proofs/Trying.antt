-- What a trial leads to, and where the program marked by all spots has no typing.
use Rattle.std.proofs.Common.{◌≡◌, ℕ, ◌+◌, ◌-◌, ◌<◌, ◌≤◌, Bool, true, false, Result, Ok, Err, List, [], ◌∷◌, ◌++◌}
use Rattle.std.proofs.Common.{length, get_or, drop, append_assoc, sym, ap, subst, ◌∙◌, arith}
use Rattle.std.specs.Prelude.{◌==◌, IfOk, count_by}
use Rattle.std.proofs.lemmas.List.{drop_more, get_or_default}
use Rattle.plc_lang.specs.Skeleton.{Skeleton}
use Rattle.plc_auto.specs.declared.observer.Observer.{Observer}
use Rattle.plc_type.specs.declared.env.Env.{Env}
use Rattle.plc_flow.specs.Skeleton.{skeleton_of}
use Rattle.plc_xfer.specs.declared.fault.TypeFault.{TypeFault}
use Rattle.plc_xfer.specs.Typings.{IsTyping, IsStrongest, IsStuckAt}
use Rattle.plc_infer.specs.declared.typing.Typing.{Typing}
use Rattle.plc_infer.specs.declared.typing.InferFault.{InferFault}
use Rattle.plc_infer.specs.Resuming as resuming
use Rattle.plc_suggest.specs.declared.spot.Spot.{Spot}
use Rattle.plc_suggest.specs.declared.parts.Parts.{Parts}
use Rattle.plc_suggest.specs.Spots.{spots_of, claims_at, marked}
use Rattle.plc_suggest.specs.Needed.{IsTypable}
use Rattle.plc_suggest.proofs.Defaults.{some_spot}
use Rattle.plc_suggest.specs.Trials.{AreParts, IsReached, IsTrialOf, AreKept}
use Rattle.plc_suggest.proofs.Marked.{fault_past_claims}
use Rattle.plc_suggest.proofs.Claiming.{claims_counted}
use Rattle.plc_suggest.proofs.Deciding.{decide, skip_row}

-- ---- what inference reached

pub reached_if : (r : Result Typing InferFault) (o : Observer) {s t : Skeleton} → s ≡ t
    → IfOk r (λ typing. IsTyping o s typing.env) → IfOk r (λ typing. IsStrongest o s typing.env)
    → IfOk r (λ typing. resuming.IsReached o t typing.env)
reached_if (Ok x) o is typing strongest =
    subst (λ (u : Skeleton). resuming.IsReached o u x.env) is (record { typing = typing; strongest = strongest })
reached_if (Err e) o is typing strongest = tt

-- ---- the answer of a trial

trial_at : (p : Parts) (spots : List Spot) (old new : List Env) (b c : Bool) → b ≡ c → IsTrialOf p spots old new b
    → IsTrialOf p spots old new c
trial_at p spots old new b c e h = subst (IsTrialOf p spots old new) e h

pub trial_held : (p : Parts) (read kept : List Spot) (n : ℕ) (old new : List Env) (b : Bool) → read ≡ kept → b ≡ true
    → IsTrialOf p (read ++ drop n p.spots.now) old new b → IsReached p (kept ++ drop n p.spots.now) new
trial_held p read kept n old new b same e h =
    subst (λ (xs : List Spot). IsReached p (xs ++ drop n p.spots.now) new) same
    (trial_at p (read ++ drop n p.spots.now) old new b true e h)

pub trial_failed : (p : Parts) (read kept : List Spot) (m n : ℕ) (old new : List Env) (b : Bool) → read ≡ kept → m ≡ n
    → b ≡ false → IsTrialOf p (read ++ drop m p.spots.now) old new b
    → (IsTypable p.observer.now (skeleton_of p.flow.now) (kept ++ drop n p.spots.now) → ⊥) × (new ≡ old)
trial_failed p read kept m n old new b same e false_is h =
    subst (λ (xs : List Spot). IsTrialOf p (xs ++ drop n p.spots.now) old new false) same
    (subst (λ (k : ℕ). IsTrialOf p (read ++ drop k p.spots.now) old new false) e
    (trial_at p (read ++ drop m p.spots.now) old new b false false_is h))

-- ---- one turn of the search

pub row_goes : (p : Parts) (kept : List Spot) (at n : ℕ) (envs : List Env) → AreParts p
    → AreKept p.observer.now (skeleton_of p.flow.now) kept at → at + n ≤ length p.spots.now
    → IsReached p (kept ++ drop (at + n) p.spots.now) envs
    → AreKept p.observer.now (skeleton_of p.flow.now) kept (at + n)
row_goes p kept at n envs parts so_far within reached =
    skip_row p.observer.now (skeleton_of p.flow.now) kept n at so_far
    (subst (λ (xs : List Spot). at + n ≤ length xs) parts.spots within)
    (subst (λ (xs : List Spot). IsTypable p.observer.now (skeleton_of p.flow.now) (kept ++ drop (at + n) xs))
    parts.spots (envs, reached.typing))

pub spot_stays : (p : Parts) (kept : List Spot) (at : ℕ) → AreParts p
    → AreKept p.observer.now (skeleton_of p.flow.now) kept at → at < length p.spots.now
    → (IsTypable p.observer.now (skeleton_of p.flow.now) (kept ++ drop (at + 1) p.spots.now) → ⊥)
    → AreKept p.observer.now (skeleton_of p.flow.now) (kept ++ get_or p.spots.now at some_spot ∷ []) (at + 1)
spot_stays p kept at parts so_far small none =
    let s = skeleton_of p.flow.now in
    decide p.observer.now s kept at (get_or p.spots.now at some_spot) true so_far
    (subst (λ (xs : List Spot). at < length xs) parts.spots small)
    (subst (λ (xs : List Spot). get_or p.spots.now at some_spot ≡ get_or xs at (get_or p.spots.now at some_spot))
    parts.spots (get_or_default p.spots.now at some_spot (get_or p.spots.now at some_spot) small))
    (subst (λ (xs : List Spot). IsTypable p.observer.now s (kept ++ drop (at + 1) xs) → ⊥) parts.spots none)

pub reached_again : (p : Parts) (kept new : List Spot) (at : ℕ) (old envs : List Env) → at < length p.spots.now
    → envs ≡ old → new ≡ kept ++ get_or p.spots.now at some_spot ∷ []
    → IsReached p (kept ++ drop at p.spots.now) old
    → IsReached p (new ++ drop (at + 1) p.spots.now) envs
reached_again p kept new at old envs small same made reached =
    let x = get_or p.spots.now at some_spot in
    let rest = drop (at + 1) p.spots.now in
    let is : kept ++ drop at p.spots.now ≡ new ++ rest =
    ap (λ (xs : List Spot). kept ++ xs) (drop_more p.spots.now at some_spot small)
    ∙ sym (append_assoc kept (x ∷ []) rest) ∙ ap (λ (xs : List Spot). xs ++ rest) (sym made) in
    subst (IsReached p (new ++ rest)) (sym same) (subst (λ (xs : List Spot). IsReached p xs old) is reached)

-- ---- where no claims are enough

-- how many claims stand in front, as the code counts them
pub claims_before : (o : Observer) (s t : Skeleton) (spots : List Spot) (k i n : ℕ) (fault : TypeFault)
    → t ≡ marked spots s → n ≡ count_by (λ (x : Spot). x.step.0 == k) spots
    → IsStuckAt o t k i fault → n ≤ i
claims_before o s t spots k i n fault is counted stuck =
    let here = subst (λ (u : Skeleton). IsStuckAt o u k i fault) is stuck in
    let h = fault_past_claims o s spots here.strongest.0 k i fault here.strongest.2 in
    omega (arith, h, counted, claims_counted spots k)

pub counted_without : (o : Observer) (s t : Skeleton) (spots : List Spot) (k i n : ℕ) (fault : TypeFault)
    → t ≡ marked spots s → spots ≡ spots_of s → n ≡ count_by (λ (x : Spot). x.step.0 == k) spots
    → IsStuckAt o t k i fault
    → IsStuckAt o (marked (spots_of s) s) k (length (claims_at (spots_of s) k) + (i - n)) fault
counted_without o s t spots k i n fault is all counted stuck =
    let less = claims_before o s t spots k i n fault is counted stuck in
    let same : i ≡ length (claims_at spots k) + (i - n) = omega (arith, less, counted, claims_counted spots k) in
    subst (λ (xs : List Spot). IsStuckAt o (marked xs s) k (length (claims_at xs k) + (i - n)) fault) all
    (subst (λ (j : ℕ). IsStuckAt o (marked spots s) k j fault) same
    (subst (λ (u : Skeleton). IsStuckAt o u k i fault) is stuck))

-- ---- a fact that stands beside an answer

pub beside_ok : {T E : Type 0} (r : Result T E) (P : Type 0) → P → IfOk r (λ _. P)
beside_ok (Ok x) P h = h
beside_ok (Err e) P h = tt
