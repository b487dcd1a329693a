-- A typing of a program with some claims is one of the program with more: what a step with more claims leads to is
-- below what it leads to with fewer, and its conditions hold sooner.
use Rattle.std.proofs.Common.{◌≡◌, ℕ, zero, suc, ◌+◌, ◌≤◌, ◌==◌, true, false, Bool, List, [], ◌∷◌, ◌++◌, length}
use Rattle.std.proofs.Common.{Option, None, Some, refl, sym, subst, ◌∙◌, ap, arith}
use Rattle.std.specs.Prelude.{if◌then◌else◌, slice_get, option_map}
use Rattle.plc_lang.specs.declared.syntax.Var.{Var}
use Rattle.plc_lang.specs.declared.syntax.Primitive.{Primitive}
use Rattle.plc_lang.specs.declared.syntax.Primitive.TheVariants.{Active}
use Rattle.plc_lang.specs.Skeleton.{Skeleton, Passage}
use Rattle.plc_auto.specs.declared.observer.Observer.{Observer}
use Rattle.plc_type.specs.declared.env.Env.{Env}
use Rattle.plc_type.specs.Environments.{env_below}
use Rattle.plc_type.proofs.Ordered.{ordered, trans}
use Rattle.plc_xfer.specs.Rules.{env_after_all}
use Rattle.plc_xfer.specs.declared.fault.TypeFault.{TypeFault}
use Rattle.plc_xfer.specs.Typings.{env_at, led, fault_in, fault_under, IsPretyping, IsTyping}
use Rattle.plc_xfer.proofs.Keeps.{interfered_below}
use Rattle.plc_suggest.specs.declared.spot.Spot.{Spot}
use Rattle.plc_suggest.specs.Spots.{claims_at, with_claims, marked_from, marked}
use Rattle.plc_suggest.specs.Needed.{IsTypable}
use Rattle.plc_suggest.proofs.Claims.{IsPart, HasFewerClaims, AreClaims}
use Rattle.plc_suggest.proofs.Order.{IsLower, claims_lead_lower, claims_hold, fault_past}

-- ---- the steps of a marked program

claims_if : (here : Bool) (v : Var) (claims : List Primitive) → AreClaims claims
    → AreClaims (if here then Active v ∷ claims else claims)
claims_if true v claims h = ((v, refl), h)
claims_if false v claims h = h

pub are_claims : (spots : List Spot) (k : ℕ) → AreClaims (claims_at spots k)
are_claims [] k = tt
are_claims (x ∷ xs) k = claims_if (x.step.0 == k) x.var (claims_at xs k) (are_claims xs k)

step_from : (spots : List Spot) (n k : ℕ) (steps : List Passage)
    → slice_get (marked_from spots n steps) k ≡ option_map (with_claims (claims_at spots (n + k))) (slice_get steps k)
step_from spots n k [] = refl
step_from spots n zero (x ∷ steps) =
    let same : n ≡ n + 0 = omega arith in
    ap (λ (m : ℕ). Some (with_claims (claims_at spots m) x)) same
step_from spots n (suc k) (x ∷ steps) =
    let same : n + 1 + k ≡ n + suc k = omega arith in
    step_from spots (n + 1) k steps
    ∙ ap (λ (m : ℕ). option_map (with_claims (claims_at spots m)) (slice_get steps k)) same

-- step k of a marked program is that of the program, with its claims in front
pub marked_step : (s : Skeleton) (spots : List Spot) (k : ℕ)
    → slice_get (marked spots s).passages k ≡ option_map (with_claims (claims_at spots k)) (slice_get s.passages k)
unfolding marked
marked_step s spots k =
    let same : 0 + k ≡ k = omega arith in
    step_from spots 0 k s.passages
    ∙ ap (λ (m : ℕ). option_map (with_claims (claims_at spots m)) (slice_get s.passages k)) same

count_from : (spots : List Spot) (n : ℕ) (steps : List Passage) → length (marked_from spots n steps) ≡ length steps
count_from spots n [] = refl
count_from spots n (x ∷ steps) = ap suc (count_from spots (n + 1) steps)

-- a marked program has as many steps
pub marked_count : (s : Skeleton) (spots : List Spot) → length (marked spots s).passages ≡ length s.passages
unfolding marked
marked_count s spots = count_from spots 0 s.passages

-- ---- one step with more claims

same_lower : (e : Env) → IsLower e e
same_lower e = ((refl, refl), ordered.same e)

-- a step leads to no more than its last point has
abbrev Flows : Observer → List Env → Passage → Type 0
Flows o envs x = env_below (led o (env_at envs x.from) x.prims) (env_at envs x.to) ≡ true

flow_stays : (o : Observer) (envs : List Env) (ys xs : List Primitive) (step : Option Passage)
    → IsPart ys xs → AreClaims xs
    → ((x : Passage) → option_map (with_claims ys) step ≡ Some x → Flows o envs x)
    → (x : Passage) → option_map (with_claims xs) step ≡ Some x → Flows o envs x
flow_stays o envs ys xs None part claims flows x is = absurd cc
flow_stays o envs ys xs (Some z) part claims flows x is =
    let same : with_claims xs z ≡ x = cc in
    let e = env_at envs z.from in
    let lower = claims_lead_lower o e e ys xs z.prims part claims (same_lower e) in
    subst (Flows o envs) same (trans (led o e (xs ++ z.prims)) (led o e (ys ++ z.prims)) (env_at envs z.to)
    (interfered_below o (env_after_all o e (xs ++ z.prims)) (env_after_all o e (ys ++ z.prims)) lower)
    (flows (with_claims ys z) refl))

holding_stays : (o : Observer) (envs : List Env) (ys xs : List Primitive) (step : Option Passage)
    → IsPart ys xs → AreClaims xs
    → ((i : ℕ) → fault_in o envs i (option_map (with_claims ys) step) ≡ None)
    → (i : ℕ) → fault_in o envs i (option_map (with_claims xs) step) ≡ None
holding_stays o envs ys xs None part claims holds i = refl
holding_stays o envs ys xs (Some z) part claims holds i =
    let e = env_at envs z.from in
    claims_hold o e e ys xs z.prims part claims (same_lower e) holds i

-- ---- the program

step_flows : (o : Observer) (s : Skeleton) (ys xs : List Spot) (envs : List Env) (k : ℕ) → HasFewerClaims ys xs
    → ((x : Passage) → slice_get (marked ys s).passages k ≡ Some x → Flows o envs x)
    → (x : Passage) → slice_get (marked xs s).passages k ≡ Some x → Flows o envs x
step_flows o s ys xs envs k fewer flows x is =
    flow_stays o envs (claims_at ys k) (claims_at xs k) (slice_get s.passages k) (fewer k) (are_claims xs k)
    (λ y same. flows y (marked_step s ys k ∙ same)) x (sym (marked_step s xs k) ∙ is)

-- a pre-typing of a program with some claims is one of the program with more
pub pretyping_stays : (o : Observer) (s : Skeleton) (ys xs : List Spot) (envs : List Env) → HasFewerClaims ys xs
    → IsPretyping o (marked ys s) envs → IsPretyping o (marked xs s) envs
unfolding marked
pretyping_stays o s ys xs envs fewer p = record {
  count = p.count;
  environments = p.environments;
  entries = p.entries;
  flows = λ k x is. step_flows o s ys xs envs k fewer (p.flows k) x is;
}

-- and so is a typing
pub typing_stays : (o : Observer) (s : Skeleton) (ys xs : List Spot) (envs : List Env) → HasFewerClaims ys xs
    → IsTyping o (marked ys s) envs → IsTyping o (marked xs s) envs
typing_stays o s ys xs envs fewer t = record {
  pretyping = pretyping_stays o s ys xs envs fewer t.pretyping;
  holding = λ k i.
      subst (λ (step : Option Passage). fault_in o envs i step ≡ None) (sym (marked_step s xs k))
      (holding_stays o envs (claims_at ys k) (claims_at xs k) (slice_get s.passages k) (fewer k) (are_claims xs k)
      (λ j. subst (λ (step : Option Passage). fault_in o envs j step ≡ None) (marked_step s ys k) (t.holding k j)) i);
}

-- with more claims a program stays typable
pub typable_stays : (o : Observer) (s : Skeleton) (ys xs : List Spot) → HasFewerClaims ys xs
    → IsTypable o s ys → IsTypable o s xs
typable_stays o s ys xs fewer (envs, t) = (envs, typing_stays o s ys xs envs fewer t)

-- ---- what fails

step_fault_past : (o : Observer) (envs : List Env) (claims : List Primitive) (step : Option Passage) (i : ℕ)
    (fault : TypeFault) → AreClaims claims → fault_in o envs i (option_map (with_claims claims) step) ≡ Some fault
    → length claims ≤ i
step_fault_past o envs claims None i fault are failed = absurd cc
step_fault_past o envs claims (Some x) i fault are failed =
    fault_past o (env_at envs x.from) claims x.prims i fault are failed

-- the condition that fails in a step is none of its claims
pub fault_past_claims : (o : Observer) (s : Skeleton) (spots : List Spot) (envs : List Env) (k i : ℕ)
    (fault : TypeFault) → fault_under o (marked spots s) envs k i ≡ Some fault → length (claims_at spots k) ≤ i
fault_past_claims o s spots envs k i fault failed =
    step_fault_past o envs (claims_at spots k) (slice_get s.passages k) i fault (are_claims spots k)
    (ap (fault_in o envs i) (sym (marked_step s spots k)) ∙ failed)
