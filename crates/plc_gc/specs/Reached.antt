-- The claims that a step reaches: as a whole, one by one, and as a list of truths.
use Rattle.std.specs.Prelude.{◌≡◌, ℕ, ◌↔◌, true, false, not, List, ◌∷◌, ◌++◌, Some}
use Rattle.std.specs.List.{list_any}
use Rattle.plc_lang.specs.declared.syntax.Primitive.{Primitive}
use Rattle.plc_gc.specs.State.{GcState}
use Rattle.plc_gc.specs.Run.{execute}
use Rattle.plc_gc.specs.Claims.{claim_holds, ClaimsHold, claims}

-- where the claims of a step hold, each is true in the state in which it is reached; and they hold exactly
-- where none of their truths is false
pub record ClaimsAreReached : Type 0 where
  pub at_prefix : (g new : GcState) (t : ℕ) (ps qs : List Primitive) (p : Primitive) → ClaimsHold g t (ps ++ p ∷ qs)
      → execute g t ps ≡ Some new → claim_holds new t p ≡ true
  pub told : (g : GcState) (t : ℕ) (ps : List Primitive) → ClaimsHold g t ps ↔ (list_any not (claims g t ps) ≡ false)
