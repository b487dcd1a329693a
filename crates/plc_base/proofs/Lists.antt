-- What stands at a place of a list, what is left of it from a place on, and lists that are written place by place.
use Rattle.std.proofs.Common.{◌≡◌, ℕ, zero, suc, ◌+◌, ◌<◌, ◌⊎◌, inl, inr, List, [], ◌∷◌, ◌++◌, Option, Some, None, Vec, length, set, get_or, take, drop, map, reverse, slice_get, refl, sym, ap, ◌∙◌, arith, add-one}
use Rattle.std.specs.Vec.{with_items}
use Rattle.std.proofs.lemmas.Bool.{cases_lt}
use Rattle.std.proofs.lemmas.List.{reverse-append, length-map, with_items_is}

-- a number below a successor
pub below_or_last : (j k : ℕ) → j < k + 1 → (j < k) ⊎ (j ≡ k)
below_or_last j k h = elim (cases_lt j k) [
  | inl less ↦ inl less
  | inr more ↦ inr (omega arith)
]

-- one list after the other
pub slice_left : {A : Type 0} (xs ys : List A) (i : ℕ) (x : A) → slice_get xs i ≡ Some x → slice_get (xs ++ ys) i ≡ Some x
slice_left [] ys i x at = cc
slice_left (y ∷ xs) ys zero x at = at
slice_left (y ∷ xs) ys (suc i) x at = slice_left xs ys i x at

pub slice_right : {A : Type 0} (xs ys : List A) (i n : ℕ) → n ≡ length xs + i → slice_get (xs ++ ys) n ≡ slice_get ys i
slice_right [] ys i n e = let same : n ≡ i = omega arith in ap (slice_get ys) same
slice_right (x ∷ xs) ys i zero e = absurd (omega arith)
slice_right (x ∷ xs) ys i (suc n) e = slice_right xs ys i n (omega arith)

-- what is left of a list begins with the item at that place
pub drop_there : {A : Type 0} (xs : List A) (i : ℕ) (x : A) → slice_get xs i ≡ Some x → drop i xs ≡ x ∷ drop (i + 1) xs
drop_there [] i x at = cc
drop_there (y ∷ xs) zero x at = cc
drop_there (y ∷ xs) (suc i) x at =
    let next : suc (i + 1) ≡ suc i + 1 = omega arith in
    drop_there xs i x at ∙ ap (λ n. x ∷ drop n (y ∷ xs)) next

-- what a list of options holds at a place stands below its length
pub held_below : {A : Type 0} (xs : List (Option A)) (i : ℕ) (x : A) → get_or xs i None ≡ Some x → i < length xs
held_below [] i x e = cc
held_below (y ∷ xs) zero x e = omega arith
held_below (y ∷ xs) (suc i) x e = let h = held_below xs i x e in omega arith

-- the newest of a list that grows at its end comes first in its reverse
pub newest_first : {A : Type 0} (xs ys : List A) (x : A) → ys ≡ xs ++ x ∷ [] → reverse ys ≡ x ∷ reverse xs
newest_first xs ys x e = ap reverse e ∙ reverse-append xs (x ∷ [])

-- a loop that writes each item in place
pub mapped_more : {A : Type 0} (f : A → A) (xs ys zs : List A) (i : ℕ) (d : A) → i < length xs → ys ≡ map f (take i xs) ++ drop i xs → zs ≡ set ys i (f (get_or ys i d)) → zs ≡ map f (take (i + 1) xs) ++ drop (i + 1) xs
mapped_more {A = A} f xs ys zs i d h e k = k ∙ ap (λ us. set us i (f (get_or us i d))) e ∙ rw add-one (go xs i h)
  where
    go : (xs : List A) (i : ℕ) → i < length xs → set (map f (take i xs) ++ drop i xs) i (f (get_or (map f (take i xs) ++ drop i xs) i d)) ≡ map f (take (suc i) xs) ++ drop (suc i) xs
    go [] i h = absurd (omega arith)
    go (x ∷ xs) zero h = refl
    go (x ∷ xs) (suc i) h = ap (λ zs. f x ∷ zs) (go xs i (omega arith))

-- a list that was lent as a slice
pub items_kept : {X Z : Type 0} (v : Vec X Z) (ws : List X) → length ws ≡ length v.items → (with_items v ws).items ≡ ws
items_kept v ws h = with_items_is v ws (h ∙ sym v.ok.0)

pub items_mapped : {X Z : Type 0} (v : Vec X Z) (ws : List X) (f : X → X) → ws ≡ map f v.items → (with_items v ws).items ≡ map f v.items
items_mapped v ws f e = items_kept v ws (ap length e ∙ length-map v.items f) ∙ e
