-- How often a name is in a longer list of failed reads.
use Rattle.std.proofs.Common.{◌≡◌, ℕ, ◌+◌, Bool, true, false, cond, List, [], ◌∷◌, ◌++◌, refl, ap, arith}
use Rattle.std.specs.Str.{bytes_eq}
use Rattle.std.proofs.lemmas.List.Sums.{sum_by_push}
use Rattle.std.proofs.lemmas.Slice.Eq.{bytes_eq-Decides}
use Rattle.plc_outside.specs.Failures.{times}

is_false : (b : Bool) → (b ≡ true → ⊥) → b ≡ false
is_false true h = absurd (h refl)
is_false false h = refl

abbrev one_if : Bool → ℕ
one_if b = cond b 1 0

pub times-push_other : (names : List (List ℕ)) (name other : List ℕ) → (other ≡ name → ⊥) → times (names ++ name ∷ []) other ≡ times names other
times-push_other names name other h =
    let no : bytes_eq name other ≡ false = is_false _ (λ e. h (cc ((bytes_eq-Decides name other).0 e))) in
    let push = sum_by_push (λ (x : List ℕ). one_if (bytes_eq x other)) names name in
    let one : one_if (bytes_eq name other) ≡ 0 = ap one_if no in
    omega (arith, push, one)

pub times-push_same : (names : List (List ℕ)) (name : List ℕ) → times (names ++ name ∷ []) name ≡ times names name + 1
times-push_same names name =
    let yes : bytes_eq name name ≡ true = (bytes_eq-Decides name name).1 refl in
    let push = sum_by_push (λ (x : List ℕ). one_if (bytes_eq x name)) names name in
    let one : one_if (bytes_eq name name) ≡ 1 = ap one_if yes in
    omega (arith, push, one)
