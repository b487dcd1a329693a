-- What is suggested of a program.
use Rattle.std.specs.Prelude.{◌≡◌, ℕ, ◌+◌, List, length}
use Rattle.plc_base.specs.declared.ids.StepId.{StepId}
use Rattle.plc_lang.specs.Skeleton.{Skeleton}
use Rattle.plc_auto.specs.declared.observer.Observer.{Observer}
use Rattle.plc_xfer.specs.declared.fault.TypeFault.{TypeFault}
use Rattle.plc_xfer.specs.Typings.{IsStuckAt}
use Rattle.plc_suggest.specs.declared.spot.Spot.{Spot}
use Rattle.plc_suggest.specs.declared.suggestion.Suggestion.{Suggestion}
use Rattle.plc_suggest.specs.declared.suggestion.Suggestion.TheVariants.{Found, Insufficient}
use Rattle.plc_suggest.specs.Spots.{spots_of, claims_at, marked}
use Rattle.plc_suggest.specs.Needed.{IsTypable, AreNeeded, IsLeastTypable, IsNeverTypable}

-- how many spots a program may have
abbrev pub most_spots : ℕ
most_spots = 4096

-- the spots that are needed, where the program marked by all spots has a typing; else the least step and primitive
-- whose condition fails under every pre-typing of that program, the primitive counted without the claims in front of it
abbrev pub IsSuggestion : Observer → Skeleton → Suggestion → Type 0
IsSuggestion o s (Found spots) = IsTypable o s (spots_of s) × AreNeeded o s spots
IsSuggestion o s (Insufficient step prim fault) =
    IsStuckAt o (marked (spots_of s) s) step.0 (length (claims_at (spots_of s) step.0) + prim) fault

-- what follows for every program: there is one set of needed spots, none of which can be left out, and where all spots
-- aren't enough no set of spots is
pub record SuggestionsAreMinimal : Type 0 where
  pub one : (o : Observer) (s : Skeleton) (a b : List Spot) → AreNeeded o s a → AreNeeded o s b → a ≡ b
  pub least : (o : Observer) (s : Skeleton) (spots : List Spot) → IsSuggestion o s (Found spots)
      → IsLeastTypable o s spots
  pub never : (o : Observer) (s : Skeleton) → (IsTypable o s (spots_of s) → ⊥) → IsNeverTypable o s
  pub insufficient : (o : Observer) (s : Skeleton) (step : StepId) (prim : ℕ) (fault : TypeFault)
      → IsSuggestion o s (Insufficient step prim fault) → IsNeverTypable o s
