-- Fewer claims and more: a list without some of its elements, and sets of spots that put fewer claims in front of
-- each step.
use Rattle.std.specs.Prelude.{◌≡◌, ◌⊎◌, ℕ, List, [], ◌∷◌}
use Rattle.plc_lang.specs.declared.syntax.Primitive.{Primitive}
use Rattle.plc_lang.specs.declared.syntax.Primitive.TheVariants.{Active}
use Rattle.plc_lang.specs.declared.syntax.Var.{Var}
use Rattle.plc_suggest.specs.declared.spot.Spot.{Spot}
use Rattle.plc_suggest.specs.Spots.{claims_at}

-- the first list is the second without some of its elements, in order
abbrev pub IsPart : {A : Type 0} → List A → List A → Type 0
IsPart [] ys = Unit
IsPart (x ∷ xs) [] = ⊥
IsPart (x ∷ xs) (y ∷ ys) = ((x ≡ y) × IsPart xs ys) ⊎ IsPart (x ∷ xs) ys

-- in front of each step the first spots put a part of the claims that the second put there
abbrev pub HasFewerClaims : List Spot → List Spot → Type 0
HasFewerClaims ys xs = (k : ℕ) → IsPart (claims_at ys k) (claims_at xs k)

-- each primitive is a claim that a pointer is active
abbrev pub AreClaims : List Primitive → Type 0
AreClaims [] = Unit
AreClaims (x ∷ xs) = ((v : Var) × (x ≡ Active v)) × AreClaims xs
