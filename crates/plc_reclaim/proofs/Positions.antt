-- The first of a list whose name passes a test.
use Rattle.std.proofs.Common.{◌≡◌, ℕ, zero, suc, ◌+◌, ◌<◌, Bool, true, false, cond, Some, None, List, [], ◌∷◌, map, slice_get, refl, ap, ◌∙◌, arith}
use Rattle.std.specs.List.{position_from}

module _ {A : Type 0} (passes : List ℕ → Bool) (name : A → List ℕ) where
  pub found_at : (k : ℕ) (xs : List A) (i : ℕ) (x : A) → slice_get xs i ≡ Some x → passes (name x) ≡ true → ((j : ℕ) (y : A) → j < i → slice_get xs j ≡ Some y → passes (name y) ≡ false)
      → position_from passes k (map name xs) ≡ Some (k + i)
  found_at k [] i x at passed others = absurd cc
  found_at k (y ∷ ys) zero x at passed others =
      let same : y ≡ x = cc in
      ap (λ b. cond b (Some k) (position_from passes (k + 1) (map name ys))) (ap (λ z. passes (name z)) same ∙ passed) ∙ ap Some (omega arith)
  found_at k (y ∷ ys) (suc i) x at passed others =
      ap (λ b. cond b (Some k) (position_from passes (k + 1) (map name ys))) (others 0 y (omega arith) refl)
      ∙ found_at (k + 1) ys i x at passed (λ j z below there. others (suc j) z (omega (arith, below)) there)
      ∙ ap Some (omega arith)

  pub found_nowhere : (k : ℕ) (xs : List A) → ((j : ℕ) (y : A) → slice_get xs j ≡ Some y → passes (name y) ≡ false) → position_from passes k (map name xs) ≡ None
  found_nowhere k [] others = refl
  found_nowhere k (y ∷ ys) others =
      ap (λ b. cond b (Some k) (position_from passes (k + 1) (map name ys))) (others 0 y refl) ∙ found_nowhere (k + 1) ys (λ j z there. others (suc j) z there)
