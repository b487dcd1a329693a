-- Numbers in lists, and tables.
use Rattle.std.proofs.Common.{◌≡◌, ℕ, zero, suc, ◌+◌, ◌<◌, List, [], ◌∷◌, ◌++◌, length, get_or, drop, refl, sym, ap, subst, ◌∙◌, arith, inl, inr}
use Rattle.std.proofs.lemmas.List.{drop_more}
use Rattle.plc_xfer.specs.Rules.{table}
use Rattle.plc_infer.specs.WorkLists.{Among, numbers}

pub among_first : (xs ys : List ℕ) (n : ℕ) → Among xs n → Among (xs ++ ys) n
among_first (x ∷ xs) ys n (inl e) = inl e
among_first (x ∷ xs) ys n (inr h) = inr (among_first xs ys n h)
among_first [] ys n h = absurd h

pub among_last : (xs : List ℕ) (y : ℕ) → Among (xs ++ y ∷ []) y
among_last [] y = inl refl
among_last (x ∷ xs) y = inr (among_last xs y)

pub table_length : {A : Type 0} (i n : ℕ) (f : ℕ → A) → length (table i n f) ≡ n
table_length i zero f = refl
table_length i (suc n) f = ap suc (table_length (i + 1) n f)

pub table_at : {A : Type 0} (i n p : ℕ) (f : ℕ → A) (d : A) → p < n → get_or (table i n f) p d ≡ f (i + p)
table_at i zero p f d small = absurd (omega arith)
table_at i (suc n) zero f d small = let e : i ≡ i + 0 = omega arith in ap f e
table_at i (suc n) (suc p) f d small =
    let e : i + 1 + p ≡ i + suc p = omega arith in
    table_at (i + 1) n p f d (omega arith) ∙ ap f e

pub table_more : {A : Type 0} (i n : ℕ) (f : ℕ → A) → table i (n + 1) f ≡ table i n f ++ f (i + n) ∷ []
table_more {A = A} i zero f = let e : i ≡ i + 0 = omega arith in ap (λ (k : ℕ). f k ∷ []) e
table_more {A = A} i (suc n) f =
    let e : i + 1 + n ≡ i + suc n = omega arith in
    let one : suc n + 1 ≡ suc (n + 1) = omega arith in
    ap (λ (k : ℕ). table i k f) one ∙ ap (λ (xs : List A). f i ∷ xs) (table_more (i + 1) n f ∙ ap (λ (k : ℕ). table (i + 1) n f ++ f k ∷ []) e)

pub table_push : {A : Type 0} (n : ℕ) (f : ℕ → A) → table 0 n f ++ f n ∷ [] ≡ table 0 (n + 1) f
table_push n f = let e : n ≡ 0 + n = omega arith in ap (λ (k : ℕ). table 0 n f ++ f k ∷ []) e ∙ sym (table_more 0 n f)

-- the numbers below n, and no other, are among them
among_table : (i n p : ℕ) → p < n → Among (table i n (λ (k : ℕ). k)) (i + p)
among_table i zero p small = absurd (omega arith)
among_table i (suc n) zero small = inl (omega arith)
among_table i (suc n) (suc p) small =
    let e : i + 1 + p ≡ i + suc p = omega arith in
    inr (subst (Among (table (i + 1) n (λ (k : ℕ). k))) e (among_table (i + 1) n p (omega arith)))

table_below : (i n p : ℕ) → Among (table i n (λ (k : ℕ). k)) p → p < i + n
table_below i zero p h = absurd h
table_below i (suc n) p (inl e) = omega arith
table_below i (suc n) p (inr h) = let r = table_below (i + 1) n p h in omega arith

pub among_numbers : (n p : ℕ) → p < n → Among (numbers n) p
among_numbers n p small = let e : 0 + p ≡ p = omega arith in subst (Among (numbers n)) e (among_table 0 n p small)

pub numbers_below : (n p : ℕ) → Among (numbers n) p → p < n
numbers_below n p h = let r = table_below 0 n p h in omega arith

pub numbers_more : (n : ℕ) → numbers n ++ n ∷ [] ≡ numbers (n + 1)
numbers_more n = table_push n (λ (k : ℕ). k)

pub among_drop : (xs : List ℕ) (i : ℕ) → i < length xs → Among (drop i xs) (get_or xs i 0)
among_drop xs i small = subst (λ (ys : List ℕ). Among ys (get_or xs i 0)) (sym (drop_more xs i 0 small)) (inl refl)
