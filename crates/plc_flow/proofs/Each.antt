-- What holds of each item of a list.
use Rattle.std.proofs.Common.{◌≡◌, ℕ, zero, suc, Some, List, [], ◌∷◌, ◌++◌, slice_get, subst}

abbrev pub Each : {A : Type 0} → (A → Type 0) → List A → Type 0
Each P [] = Unit {0}
Each P (x ∷ xs) = P x × Each P xs

pub each_get : {A : Type 0} → (P : A → Type 0) (xs : List A) → Each P xs → (k : ℕ) (x : A) → slice_get xs k ≡ Some x → P x
each_get P [] a k x e = cc
each_get P (y ∷ xs) a zero x e = let same : y ≡ x = cc in subst P same a.0
each_get P (y ∷ xs) a (suc k) x e = each_get P xs a.1 k x e

pub each_both : {A : Type 0} → (P : A → Type 0) (xs ys : List A) → Each P xs → Each P ys → Each P (xs ++ ys)
each_both P [] ys a b = b
each_both P (x ∷ xs) ys a b = (a.0, each_both P xs ys a.1 b)

pub each_so : {A : Type 0} → (P Q : A → Type 0) → ((x : A) → P x → Q x) → (xs : List A) → Each P xs → Each Q xs
each_so P Q f [] a = tt
each_so P Q f (x ∷ xs) a = (f x a.0, each_so P Q f xs a.1)
