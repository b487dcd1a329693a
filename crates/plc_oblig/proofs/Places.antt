-- Places in lists: what is listed, and the first place that passes a test.
use Rattle.std.proofs.Common.{◌≡◌, ℕ, zero, suc, ◌+◌, ◌<◌, ◌≤◌, Bool, true, false, not, cond, List, [], ◌∷◌, map, get_or, length, slice_get, Some, refl, sym, ap, ◌∙◌, subst, arith, inl, inr, ◌⊎◌}
use Rattle.std.specs.List.{position_or_len}
use Rattle.std.proofs.lemmas.Bool.{both_ways}

-- ---- members

abbrev pub In : {A : Type 0} → A → List A → Type 0
In t [] = ⊥
In t (x ∷ xs) = (t ≡ x) ⊎ In t xs

pub in_at : {A : Type 0} (xs : List A) (i : ℕ) (x : A) → slice_get xs i ≡ Some x → In x xs
in_at [] i x e = cc
in_at (y ∷ xs) zero x e = inl (let same : y ≡ x = cc in sym same)
in_at (y ∷ xs) (suc i) x e = inr (in_at xs i x e)

-- ---- what stands at a place

-- the item at a place of a list passes a test
abbrev pub Found : {A : Type 0} → (A → Bool) → List A → ℕ → Type 0
Found {A = A} p xs i = (x : A) × (slice_get xs i ≡ Some x) × (p x ≡ true)

-- where something listed passes, the first that passes stands at the first place
pub first_found : {A : Type 0} (p : A → Bool) (xs : List A) (t : A) → In t xs → p t ≡ true → Found p xs (position_or_len p xs)
first_found p [] t i h = absurd i
first_found {A = A} p (x ∷ xs) t i h = go (λ more. first_found p xs t more h) (p x) refl i
  where
    go : (In t xs → Found p xs (position_or_len p xs)) → (b : Bool) → p x ≡ b → (t ≡ x) ⊎ In t xs → Found p (x ∷ xs) (cond (not b) (1 + position_or_len p xs) 0)
    go rest true e i = (x, refl, e)
    go rest false e (inl same) = absurd (both_ways (p x) e (ap p (sym same) ∙ h))
    go rest false e (inr more) = (let next : 1 + position_or_len p xs ≡ suc (position_or_len p xs) = omega arith in subst (Found p (x ∷ xs)) (sym next) (rest more))

-- no later place passes before the first
pub first_least : {A : Type 0} (p : A → Bool) (xs : List A) (i : ℕ) (x : A) → slice_get xs i ≡ Some x → p x ≡ true → position_or_len p xs ≤ i
first_least p [] i x e h = cc
first_least {A = A} p (y ∷ xs) zero x e h = (let same : p y ≡ true = ap p (let s : y ≡ x = cc in s) ∙ h in rw same (omega arith))
first_least {A = A} p (y ∷ xs) (suc i) x e h = go (p y) (first_least p xs i x e h)
  where
    go : (b : Bool) → position_or_len p xs ≤ i → cond (not b) (1 + position_or_len p xs) 0 ≤ suc i
    go true le = omega arith
    go false le = omega arith

pub first_same : {A : Type 0} (p q : A → Bool) → ((x : A) → p x ≡ q x) → (xs : List A) → position_or_len p xs ≡ position_or_len q xs
first_same p q h [] = refl
first_same p q h (x ∷ xs) = rw (h x, first_same p q h xs) refl

-- ---- lists of what a function gives

-- what stands at a place of it is what the function gives of what stands there
pub map_at : {A B : Type 0} (f : A → B) (xs : List A) (i : ℕ) (y : B) → slice_get (map f xs) i ≡ Some y → (x : A) × (slice_get xs i ≡ Some x) × (f x ≡ y)
map_at f [] i y e = cc
map_at f (x ∷ xs) zero y e = (x, refl, (let same : f x ≡ y = cc in same))
map_at f (x ∷ xs) (suc i) y e = map_at f xs i y e

pub map_there : {A B : Type 0} (f : A → B) (xs : List A) (i : ℕ) (x : A) → slice_get xs i ≡ Some x → slice_get (map f xs) i ≡ Some (f x)
map_there f [] i x e = cc
map_there f (y ∷ xs) zero x e = ap (λ z. Some (f z)) (let same : y ≡ x = cc in same)
map_there f (y ∷ xs) (suc i) x e = map_there f xs i x e

pub map_get : {A : Type 0} (f : A → ℕ) (xs : List A) (i : ℕ) (x : A) → slice_get xs i ≡ Some x → get_or (map f xs) i 0 ≡ f x
map_get f [] i x e = cc
map_get f (y ∷ xs) zero x e = ap f (let same : y ≡ x = cc in same)
map_get f (y ∷ xs) (suc i) x e = map_get f xs i x e

pub there : {A : Type 0} (xs : List A) (i : ℕ) → i < length xs → (x : A) × (slice_get xs i ≡ Some x)
there [] i h = absurd (omega arith)
there (x ∷ xs) zero h = (x, refl)
there (x ∷ xs) (suc i) h = there xs i (omega arith)
