-- The claims that a step reaches.
use Rattle.std.proofs.Common.{◌≡◌, ℕ, ◌+◌, ◌<◌, length, get_or, drop, append_assoc, Bool, true, false, List, [], ◌∷◌, ◌++◌, Some, not, ◌||◌, refl, sym, ap, ◌∙◌}
use Rattle.std.specs.List.{list_any}
use Rattle.std.proofs.lemmas.Bool.{or_parts}
use Rattle.std.proofs.lemmas.List.{at_drop_more}
use Rattle.std.specs.Prelude.{if◌then◌else◌, ◌↔◌}
use Rattle.plc_lang.specs.declared.syntax.Primitive.{Primitive}
use Rattle.plc_lang.specs.declared.syntax.Primitive.TheVariants.{Active}
use Rattle.plc_gc.specs.State.{GcState}
use Rattle.plc_gc.specs.Primitives.{goes, after}
use Rattle.plc_lang.specs.WellSorted.{is_claim}
use Rattle.plc_gc.specs.Run.{turn, execute}
use Rattle.plc_gc.specs.Claims.{claim_holds, ClaimsHold, claims}
use Rattle.plc_gc.specs.Reached.{ClaimsAreReached}

pub at_prefix : (g new : GcState) (t : ℕ) (ps qs : List Primitive) (p : Primitive) → ClaimsHold g t (ps ++ p ∷ qs) → execute g t ps ≡ Some new → claim_holds new t p ≡ true
at_prefix g new t [] qs p all e = let same : g ≡ new = cc in ap (λ g. claim_holds g t p) (sym same) ∙ all.0
at_prefix g new t (r ∷ ps) qs p all e = go (goes g t r) refl all.1 e (λ rest is. at_prefix (after g t r) new t ps qs p rest is)
  where
    go : (b : Bool) → goes g t r ≡ b → (goes g t r ≡ true → ClaimsHold (after g t r) t (ps ++ p ∷ qs)) → turn b (execute (after g t r) t ps) ≡ Some new
        → (ClaimsHold (after g t r) t (ps ++ p ∷ qs) → execute (after g t r) t ps ≡ Some new → claim_holds new t p ≡ true) → claim_holds new t p ≡ true
    go true is rest e next = next (rest is) e
    go false is rest e next = cc

-- a primitive that is no claim claims what is true
no_claim : (g : GcState) (t : ℕ) (p : Primitive) → is_claim p ≡ false → claim_holds g t p ≡ true
no_claim g t (Active p) e = cc
no_claim g t p e = refl

not-false : (b : Bool) → not b ≡ false → b ≡ true
not-false true e = refl
not-false false e = cc

none_false : (b c : Bool) → b ≡ true → c ≡ false → (not b || c) ≡ false
none_false true c e f = f
none_false false c e f = cc

told : (g : GcState) (t : ℕ) (ps : List Primitive) → ClaimsHold g t ps ↔ (list_any not (claims g t ps) ≡ false)
told g t [] = (λ e. refl, λ e. tt)
told g t (p ∷ ps) = go (is_claim p) refl (goes g t p) refl (told (after g t p) t ps)
  where
    go : (x : Bool) → is_claim p ≡ x → (y : Bool) → goes g t p ≡ y → (ClaimsHold (after g t p) t ps ↔ (list_any not (claims (after g t p) t ps) ≡ false))
        → ((claim_holds g t p ≡ true) × (goes g t p ≡ true → ClaimsHold (after g t p) t ps)) ↔ (list_any not ((if x then claim_holds g t p ∷ [] else []) ++ (if y then claims (after g t p) t ps else [])) ≡ false)
    go true isx true isy rest = (λ e. none_false (claim_holds g t p) _ e.0 (rest.0 (e.1 isy)), λ e. (let parts = or_parts (not (claim_holds g t p)) _ e in (not-false _ parts.0, λ h. rest.1 parts.1)))
    go true isx false isy rest = (λ e. none_false (claim_holds g t p) false e.0 refl, λ e. (let parts = or_parts (not (claim_holds g t p)) false e in (not-false _ parts.0, λ h. cc)))
    go false isx true isy rest = (λ e. rest.0 (e.1 isy), λ e. (no_claim g t p isx, λ h. rest.1 e))
    go false isx false isy rest = (λ e. refl, λ e. (no_claim g t p isx, λ h. cc))

-- ---- in code, primitive by primitive

append_none : (bs : List Bool) → bs ++ [] ≡ bs
append_none [] = refl
append_none (b ∷ bs) = ap (λ xs. b ∷ xs) (append_none bs)

-- the claim of one primitive, if it is one
abbrev own : GcState → ℕ → Primitive → List Bool
own g t p = if is_claim p then claim_holds g t p ∷ [] else []

-- a primitive that went, whose claim was noted
pub claims_went : (g new : GcState) (t : ℕ) (old noted : List Bool) (ps : List Primitive) (k : ℕ) (d : Primitive) (end : List Bool) → k < length ps
    → noted ≡ old ++ own g t (get_or ps k d) → new ≡ (if goes g t (get_or ps k d) then after g t (get_or ps k d) else g) → goes g t (get_or ps k d) ≡ true
    → old ++ claims g t (drop k ps) ≡ end → noted ++ claims new t (drop (k + 1) ps) ≡ end
claims_went g new t old noted ps k d end small is next unblocked same =
    let p = get_or ps k d in
    let rest = claims (after g t p) t (drop (k + 1) ps) in
    let state : new ≡ after g t p = next ∙ ap (λ b. if b then after g t p else g) unblocked in
    (λ i. is i ++ claims (state i) t (drop (k + 1) ps)) ∙ append_assoc old (own g t p) rest
    ∙ ap (λ b. old ++ (own g t p ++ (if b then rest else []))) (sym unblocked) ∙ sym (at_drop_more (λ qs. old ++ claims g t qs) ps k d small) ∙ same

-- a primitive that is blocked, whose claim was noted
pub claims_stopped : (g : GcState) (t : ℕ) (old noted : List Bool) (ps : List Primitive) (k : ℕ) (d : Primitive) (end : List Bool) → k < length ps
    → noted ≡ old ++ own g t (get_or ps k d) → goes g t (get_or ps k d) ≡ false → old ++ claims g t (drop k ps) ≡ end → noted ≡ end
claims_stopped g t old noted ps k d end small is blocked same =
    let p = get_or ps k d in
    is ∙ ap (λ bs. old ++ bs) (sym (append_none (own g t p)))
    ∙ ap (λ b. old ++ (own g t p ++ (if b then claims (after g t p) t (drop (k + 1) ps) else []))) (sym blocked) ∙ sym (at_drop_more (λ qs. old ++ claims g t qs) ps k d small) ∙ same

pub reached : ClaimsAreReached
reached = record { at_prefix = at_prefix; told = told }
