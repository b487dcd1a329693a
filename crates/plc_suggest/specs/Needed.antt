-- The claims that are needed: one spot after another is left out where the program stays typable without it.
use Rattle.std.specs.Prelude.{◌≡◌, ℕ, suc, ◌<◌, Bool, true, false, List, [], ◌∷◌, ◌++◌, length, take, drop}
use Rattle.std.specs.Prelude.{slice_get, Some}
use Rattle.plc_lang.specs.Skeleton.{Skeleton}
use Rattle.plc_auto.specs.declared.observer.Observer.{Observer}
use Rattle.plc_xfer.specs.Typings.{HasTyping}
use Rattle.plc_suggest.specs.declared.spot.Spot.{Spot}
use Rattle.plc_suggest.specs.Spots.{spots_of, marked}

-- the spots of a set, which is given by a flag for each spot, in order
abbrev pub chosen : List Bool → List Spot → List Spot
chosen [] spots = []
chosen (b ∷ bs) [] = []
chosen (true ∷ bs) (x ∷ xs) = x ∷ chosen bs xs
chosen (false ∷ bs) (x ∷ xs) = chosen bs xs

-- spot i is tried: the spots of the set before it, and all spots after it
abbrev pub tried : List Bool → ℕ → List Spot → List Spot
tried flags i spots = chosen flags (take i spots) ++ drop (suc i) spots

-- the program marked by these spots has a typing
abbrev pub IsTypable : Observer → Skeleton → List Spot → Type 0
IsTypable o s spots = HasTyping o (marked spots s)

-- a set of spots, in order, that has a spot exactly where the program has no typing that is marked by the spots of the
-- set before it and by all spots after it
pub record AreNeeded (o : Observer) (s : Skeleton) (spots : List Spot) : Type 0 where
  pub flags : List Bool
  pub count : length flags ≡ length (spots_of s)
  pub are : spots ≡ chosen flags (spots_of s)
  pub needed : (i : ℕ) → slice_get flags i ≡ Some true → IsTypable o s (tried flags i (spots_of s)) → ⊥
  pub needless : (i : ℕ) → slice_get flags i ≡ Some false → IsTypable o s (tried flags i (spots_of s))

-- marked by these spots the program has a typing, and marked by any of them without at least one it has none
pub record IsLeastTypable (o : Observer) (s : Skeleton) (spots : List Spot) : Type 0 where
  pub typable : IsTypable o s spots
  pub none_fewer : (flags : List Bool) (i : ℕ) → i < length spots → slice_get flags i ≡ Some false
      → IsTypable o s (chosen flags spots) → ⊥

-- whatever set of spots marks the program, it has no typing
abbrev pub IsNeverTypable : Observer → Skeleton → Type 0
IsNeverTypable o s = (flags : List Bool) → IsTypable o s (chosen flags (spots_of s)) → ⊥
