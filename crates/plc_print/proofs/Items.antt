-- The items of a list by their places.
use Rattle.std.proofs.Common.{◌≡◌, ℕ, suc, ◌+◌, ◌-◌, ◌<◌, ◌≤◌, List, [], ◌∷◌, length, get_or, take, drop, ap, sym, ◌∙◌, drop-cons, arith}
use Rattle.std.proofs.lemmas.List.{take_all}

-- what is left of a list begins with the item at that place
pub copy_left : {A : Type 0} → (xs : List A) (i : ℕ) (d : A) → i < length xs → drop i xs ≡ get_or xs i d ∷ drop (i + 1) xs
copy_left xs i d within = let next : suc i ≡ i + 1 = omega arith in drop-cons xs i d within ∙ ap (λ (k : ℕ). get_or xs i d ∷ drop k xs) next

pub item_left : {A : Type 0} → (xs : List A) (i : ℕ) (x : A) → i < length xs → x ≡ get_or xs i x → drop i xs ≡ x ∷ drop (i + 1) xs
item_left xs i x within e = copy_left xs i x within ∙ ap (λ y. y ∷ drop (i + 1) xs) (sym e)

-- a list of one item
pub one_item : {A : Type 0} → (xs : List A) (x : A) → 1 ≤ length xs → length xs < 2 → x ≡ get_or xs 0 x → xs ≡ x ∷ []
one_item [] x some few e = absurd (omega arith)
one_item (y ∷ []) x some few e = ap (λ z. z ∷ []) (sym e)
one_item (y ∷ z ∷ xs) x some few e = absurd (omega arith)

-- the first item and those after it
pub first_item : {A : Type 0} → (xs : List A) (d : A) → 1 ≤ length xs → xs ≡ get_or xs 0 d ∷ take (length xs - 1) (drop 1 xs)
first_item [] d some = absurd (omega arith)
first_item (y ∷ ys) d some = ap (λ zs. y ∷ zs) (sym (take_all (length (y ∷ ys) - 1) ys (omega arith)))

-- the first two items and those after them
pub two_items : {A : Type 0} → (xs : List A) (x y : A) → 2 ≤ length xs → x ≡ get_or xs 0 x → y ≡ get_or xs 1 y → xs ≡ x ∷ y ∷ take (length xs - 2) (drop 2 xs)
two_items [] x y some e f = absurd (omega arith)
two_items (a ∷ []) x y some e f = absurd (omega arith)
two_items (a ∷ b ∷ zs) x y some e f =
    ap (λ us. a ∷ b ∷ us) (sym (take_all (length (a ∷ b ∷ zs) - 2) zs (omega arith))) ∙ ap (λ u. u ∷ b ∷ take (length (a ∷ b ∷ zs) - 2) zs) (sym e) ∙ ap (λ u. x ∷ u ∷ take (length (a ∷ b ∷ zs) - 2) zs) (sym f)
