-- What lists contain that are made of others.
use Rattle.std.proofs.Common.{◌≡◌, ℕ, zero, suc, ◌<◌, List, [], ◌∷◌, ◌++◌, map, length, slice_get, Some, refl, ap, subst, arith}
use Rattle.std.specs.Prelude.{flat_map, Contains, slice_index_or}
use Rattle.std.proofs.lemmas.Option.{get_or_from_slice_get, slice_get_within}
use Rattle.std.proofs.lemmas.List.Elements.{Contains-append_left, Contains-append_right}

pub at_head : {A : Type 0} (x : A) (xs : List A) → Contains (x ∷ xs) x
at_head x xs = (0, omega arith, refl)

pub in_tail : {A : Type 0} (x y : A) (xs : List A) → Contains xs y → Contains (x ∷ xs) y
in_tail x y xs h = let less = h.1 in (suc h.0, omega arith, h.2)

pub at_place : {A : Type 0} (xs : List A) (k : ℕ) (x : A) → slice_get xs k ≡ Some x → Contains xs x
at_place xs k x is = (k, slice_get_within xs k x is, get_or_from_slice_get xs k x x is)

pub none_contained : {A : Type 0} (x : A) → Contains [] x → ⊥
none_contained x h = let less = h.1 in absurd (omega arith)

-- an item is the first, or among the rest
pub each_case : {A : Type 0} (P : A → Type 0) (x y : A) (xs : List A) → Contains (x ∷ xs) y → P x → (Contains xs y → P y) → P y
each_case P x y xs (zero, less, is) first rest = subst P is first
each_case P x y xs (suc k, less, is) first rest = rest (k, (omega arith), is)

-- ---- what a function gives

pub contains_map : {A B : Type 0} (f : A → B) (xs : List A) (x : A) → Contains xs x → Contains (map f xs) (f x)
contains_map f [] x h = absurd (none_contained x h)
contains_map f (y ∷ xs) x h = each_case (λ z. Contains (map f (y ∷ xs)) (f z)) y x xs h (at_head (f y) (map f xs)) (λ more. in_tail (f y) (f x) (map f xs) (contains_map f xs x more))

pub contains_flat_map : {A B : Type 0} (f : A → List B) (xs : List A) (x : A) (y : B) → Contains xs x → Contains (f x) y → Contains (flat_map f xs) y
contains_flat_map f [] x y h g = absurd (none_contained x h)
contains_flat_map f (z ∷ xs) x y h g =
    each_case (λ w. Contains (f w) y → Contains (flat_map f (z ∷ xs)) y) z x xs h (λ here. Contains-append_left (f z) (flat_map f xs) y here)
    (λ more here. Contains-append_right (f z) (flat_map f xs) y (contains_flat_map f xs x y more here)) g

-- ---- within

abbrev pub Within : {A : Type 0} → List A → List A → Type 0
Within {A = A} xs ys = (x : A) → Contains xs x → Contains ys x

pub within_left : {A : Type 0} (xs ys zs : List A) → Within xs ys → Within xs (ys ++ zs)
within_left xs ys zs h x c = Contains-append_left ys zs x (h x c)

pub within_right : {A : Type 0} (xs ys zs : List A) → Within xs zs → Within xs (ys ++ zs)
within_right xs ys zs h x c = Contains-append_right ys zs x (h x c)

pub within_itself : {A : Type 0} (xs : List A) → Within xs xs
within_itself xs x c = c

pub within_map : {A B : Type 0} (f : A → B) (xs ys : List A) → Within xs ys → Within (map f xs) (map f ys)
within_map f [] ys h y c = absurd (none_contained y c)
within_map f (x ∷ xs) ys h y c =
    each_case (λ z. Contains (map f ys) z) (f x) y (map f xs) c (contains_map f ys x (h x (at_head x xs)))
    (λ more. within_map f xs ys (λ z d. h z (in_tail x z xs d)) y more)

-- ---- items by their places

pub map_read : {A B : Type 0} (f : A → B) (xs : List A) (i : ℕ) (x : A) (d : B) → i < length xs → slice_index_or xs i x ≡ x → slice_index_or (map f xs) i d ≡ f x
map_read f [] i x d less is = absurd (omega arith)
map_read f (y ∷ xs) zero x d less is = ap f is
map_read f (y ∷ xs) (suc i) x d less is = map_read f xs i x d (omega arith) is
