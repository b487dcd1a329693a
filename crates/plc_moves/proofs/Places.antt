-- What is held stands in the table.
use Rattle.std.proofs.Common.{◌≡◌, ℕ, zero, suc, ◌<◌, List, [], ◌∷◌, Option, Some, None, length, get_or, arith}

pub held_below : {A : Type 0} (xs : List (Option A)) (t : ℕ) (x : A) → get_or xs t None ≡ Some x → t < length xs
held_below [] t x e = cc
held_below (y ∷ xs) zero x e = omega arith
held_below (y ∷ xs) (suc t) x e = let h = held_below xs t x e in omega arith
