-- What passes a test stands among all that do behind so many as stand before it.
use Rattle.std.proofs.Common.{◌≡◌, ℕ, zero, suc, ◌+◌, Bool, true, false, cond, List, [], ◌∷◌, take, filter}
use Rattle.std.proofs.Common.{slice_get, count_by, Option, Some, ap, ◌∙◌, arith}
use Rattle.std.proofs.lemmas.List.Sums.{sum_by-cons}

module _ {X : Type 0} (f : X → Bool) where
  counted : (x : X) (xs : List X) → count_by f (x ∷ xs) ≡ cond (f x) 1 0 + count_by f xs
  counted x xs = sum_by-cons (λ y. cond (f y) 1 0) x xs

  pub behind : (xs : List X) (k : ℕ) (x : X) → slice_get xs k ≡ Some x → f x ≡ true
      → slice_get (filter f xs) (count_by f (take k xs)) ≡ Some x
  behind [] k x e kept = absurd cc
  behind (y ∷ xs) zero x e kept =
      let same : y ≡ x = cc in
      let kind : f y ≡ true = ap f same ∙ kept in
      rw kind (ap Some same)
  behind (y ∷ xs) (suc k) x e kept = rw (counted y (take k xs)) (go (f y) (behind xs k x e kept))
    where
      n : ℕ
      n = count_by f (take k xs)

      go : (b : Bool) → slice_get (filter f xs) n ≡ Some x
          → slice_get (cond b (y ∷ filter f xs) (filter f xs)) (cond b 1 0 + n) ≡ Some x
      go true r =
          let more : 1 + n ≡ suc n = omega arith in
          ap (λ m. slice_get (y ∷ filter f xs) m) more ∙ r
      go false r =
          let none : 0 + n ≡ n = omega arith in
          ap (λ m. slice_get (filter f xs) m) none ∙ r

-- what stands at one place is one thing
pub one : {X : Type 0} (a b : X) (found : Option X) → Some a ≡ found → found ≡ Some b → a ≡ b
one a b found e f = cc
