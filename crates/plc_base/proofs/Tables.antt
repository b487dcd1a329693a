-- Lists as tables with a default past their end.
use Rattle.std.proofs.Common.{◌≡◌, ℕ, zero, suc, Bool, true, false, not, ◌&&◌, ◌||◌, ◌==◌, ◌<◌, cond, List, [], ◌∷◌, length, set, get_or, map, replicate, filter, refl, sym, ap, ◌∙◌, arith, length-set}
use Rattle.std.specs.List.{list_any}
use Rattle.std.proofs.lemmas.Bool.{eq-eqb, eqb-true}
use Rattle.plc_base.specs.Tables.{put_at}

pub get-put_same : {A : Type 0} (d : A) (xs : List A) (i : ℕ) (v : A) → get_or (put_at d xs i v) i d ≡ v
get-put_same d [] zero v = refl
get-put_same d [] (suc i) v = get-put_same d [] i v
get-put_same d (x ∷ xs) zero v = refl
get-put_same d (x ∷ xs) (suc i) v = get-put_same d xs i v

pub get-put_other : {A : Type 0} (d : A) (xs : List A) (i : ℕ) (v : A) (j : ℕ) → (j ≡ i → ⊥) → get_or (put_at d xs i v) j d ≡ get_or xs j d
get-put_other d [] zero v zero ne = absurd (ne refl)
get-put_other d [] zero v (suc j) ne = refl
get-put_other d [] (suc i) v zero ne = refl
get-put_other d [] (suc i) v (suc j) ne = get-put_other d [] i v j (λ e. ne (ap suc e))
get-put_other d (x ∷ xs) zero v zero ne = absurd (ne refl)
get-put_other d (x ∷ xs) zero v (suc j) ne = refl
get-put_other d (x ∷ xs) (suc i) v zero ne = refl
get-put_other d (x ∷ xs) (suc i) v (suc j) ne = get-put_other d xs i v j (λ e. ne (ap suc e))

-- a table with a value put in range
pub put_is_set : {A : Type 0} (d : A) (xs : List A) (i : ℕ) (v : A) → i < length xs → put_at d xs i v ≡ set xs i v
put_is_set d [] i v h = absurd (omega arith)
put_is_set d (x ∷ xs) zero v h = refl
put_is_set d (x ∷ xs) (suc i) v h = ap (λ ys. x ∷ ys) (put_is_set d xs i v (omega arith))

pub length_put : {A : Type 0} (d : A) (xs : List A) (i : ℕ) (v : A) → i < length xs → length (put_at d xs i v) ≡ length xs
length_put d xs i v h = ap length (put_is_set d xs i v h) ∙ length-set xs i v

pub put_put : {A : Type 0} (d : A) (xs : List A) (i : ℕ) (v w : A) → put_at d (put_at d xs i v) i w ≡ put_at d xs i w
put_put d [] zero v w = refl
put_put d [] (suc i) v w = ap (λ ys. d ∷ ys) (put_put d [] i v w)
put_put d (x ∷ xs) zero v w = refl
put_put d (x ∷ xs) (suc i) v w = ap (λ ys. x ∷ ys) (put_put d xs i v w)

pub get-map : {A B : Type 0} (f : A → B) (xs : List A) (i : ℕ) (d : A) → get_or (map f xs) i (f d) ≡ f (get_or xs i d)
get-map f [] i d = refl
get-map f (x ∷ xs) zero d = refl
get-map f (x ∷ xs) (suc i) d = get-map f xs i d

-- a table of defaults reads as the empty one
pub get-replicate : {A : Type 0} (d : A) (n i : ℕ) → get_or (replicate n d) i d ≡ d
get-replicate d zero i = refl
get-replicate d (suc n) zero = refl
get-replicate d (suc n) (suc i) = get-replicate d n i

gone_one : (x y z : Bool) → (x ≡ true → z ≡ true) → (y && not z) ≡ ((x || y) && not z)
gone_one true true z f = let e = f refl in cc
gone_one true false z f = let e = f refl in cc
gone_one false y z f = refl

kept_one : (x y z : Bool) → (x ≡ true → z ≡ false) → (x || (y && not z)) ≡ ((x || y) && not z)
kept_one true y z f = let e = f refl in cc
kept_one false y z f = refl

same_as : (x a b : ℕ) → (x == a) ≡ true → (x == b) ≡ true → (b == a) ≡ true
same_as x a b e f = eq-eqb b a (sym (eqb-true x b f) ∙ eqb-true x a e)

not_as : (x a b : ℕ) → (x == a) ≡ false → (x == b) ≡ true → (b == a) ≡ false
not_as x a b e f = rw (eqb-true x b f) at e

-- what is left without the items of a number
pub any-without : {A : Type 0} (number : A → ℕ) (xs : List A) (a b : ℕ) → list_any (λ x. number x == b) (filter (λ x. not (number x == a)) xs) ≡ (list_any (λ x. number x == b) xs && not (b == a))
any-without number [] a b = refl
any-without number (x ∷ xs) a b = go (any-without number xs a b) (number x == a) refl
  where
    go : (list_any (λ x. number x == b) (filter (λ x. not (number x == a)) xs) ≡ (list_any (λ x. number x == b) xs && not (b == a))) → (y : Bool) → (number x == a) ≡ y
        → list_any (λ x. number x == b) (cond (not (number x == a)) (x ∷ filter (λ x. not (number x == a)) xs) (filter (λ x. not (number x == a)) xs)) ≡ ((number x == b || list_any (λ x. number x == b) xs) && not (b == a))
    go rest true e = rw e (rest ∙ gone_one (number x == b) (list_any (λ x. number x == b) xs) (b == a) (same_as (number x) a b e))
    go rest false e = rw e (ap (λ z. number x == b || z) rest ∙ kept_one (number x == b) (list_any (λ x. number x == b) xs) (b == a) (not_as (number x) a b e))

-- a change that keeps the numbers
pub any-map : {A : Type 0} (number : A → ℕ) (f : A → A) → ((x : A) → number (f x) ≡ number x) → (xs : List A) (b : ℕ) → list_any (λ x. number x == b) (map f xs) ≡ list_any (λ x. number x == b) xs
any-map number f same [] b = refl
any-map number f same (x ∷ xs) b = rw (same x) (ap (λ z. number x == b || z) (any-map number f same xs b))
