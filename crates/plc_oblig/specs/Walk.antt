-- A walk over obligations: what is left of them before and after one is handed out.
use Rattle.std.specs.Prelude.{◌≡◌, List, [], ◌∷◌, Option, Some, None}
use Rattle.plc_vocabulary.specs.declared.obligations.Obligation.{Obligation}

-- the first that is left is handed out; none where none is left
abbrev pub IsNextOf : List Obligation → List Obligation → Option Obligation → Type 0
IsNextOf old new (Some o) = old ≡ o ∷ new
IsNextOf old new None = (old ≡ []) × (new ≡ [])
