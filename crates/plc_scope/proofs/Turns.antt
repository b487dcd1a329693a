-- Loops over the parts of a tree: what was made of the parts before and the parts that are left say together what all
-- of them come to.
use Rattle.std.proofs.Common.{◌≡◌, ◌∙◌, ◌+◌, ◌<◌, ◌≤◌, ℕ, suc, List, [], ◌∷◌, drop, length, get_or, Result, Ok, Err}
use Rattle.std.proofs.Common.{refl, sym, ap, arith}
use Rattle.std.proofs.Math.Seq.{drop-cons}
use Rattle.std.proofs.Math.ListN.{drop_of_length-le}
use Rattle.plc_scope.specs.declared.fault.ParseFault.{ParseFault}
use Rattle.plc_scope.specs.Answers.{FailsAs}
use Rattle.plc_scope.specs.Scope.{◌>>=◌}
use Rattle.plc_scope.proofs.Sequence.{bind_stops, fails_along}

-- what is left begins with the part at the place
pub left_at : {Y : Type 0} (ys : List Y) (n : ℕ) (y d : Y) → y ≡ get_or ys n d → n < length ys
    → drop n ys ≡ y ∷ drop (n + 1) ys
left_at ys n y d e l =
    let next : suc n ≡ n + 1 = omega arith in
    drop-cons ys n d l ∙ ap (λ x. x ∷ drop (suc n) ys) (sym e) ∙ ap (λ (k : ℕ). y ∷ drop k ys) next

-- ---- each part changes a state

module _ {S Y R : Type 0} (all : S → List Y → Result R ParseFault) (one : S → Y → Result S ParseFault)
    (goes : (s : S) (y : Y) (ys : List Y) → all s (y ∷ ys) ≡ (one s y >>= λ t. all t ys)) where
  pub turn : (s t : S) (ys : List Y) (n : ℕ) (y d : Y) → y ≡ get_or ys n d → n < length ys → one s y ≡ Ok t
      → all t (drop (n + 1) ys) ≡ all s (drop n ys)
  turn s t ys n y d e l is = sym (ap (all s) (left_at ys n y d e l) ∙ goes s y (drop (n + 1) ys)
      ∙ ap (λ r. r >>= λ t. all t (drop (n + 1) ys)) is)

  pub stop : (s : S) (ys : List Y) (n : ℕ) (y d : Y) (e : ParseFault) (total : Result R ParseFault) → y ≡ get_or ys n d
      → n < length ys → FailsAs e (one s y) → all s (drop n ys) ≡ total → FailsAs e total
  stop s ys n y d e total is l fails so_far = fails_along e _ total
      (sym (ap (all s) (left_at ys n y d is l) ∙ goes s y (drop (n + 1) ys)) ∙ so_far)
      (bind_stops e (one s y) (λ t. all t (drop (n + 1) ys)) fails)

  pub end : (s : S) (ys : List Y) (n : ℕ) (total : Result R ParseFault) → length ys ≤ n → all s (drop n ys) ≡ total
      → total ≡ all s []
  end s ys n total l so_far = sym so_far ∙ ap (all s) (drop_of_length-le ys l)

-- ---- each part also makes one of what is made

module _ {S Y X O A : Type 0} (all : S → List Y → Result O ParseFault) (one : S → Y → Result (X × S) ParseFault)
    (cons : X → O → O) (join : A → O → O)
    (goes : (s : S) (y : Y) (ys : List Y) → all s (y ∷ ys) ≡ (one s y >>= λ f. all f.1 ys >>= λ o. Ok (cons f.0 o))) where
  -- what was made, before what is still made
  abbrev pub ahead : A → Result O ParseFault → Result O ParseFault
  ahead made r = r >>= λ o. Ok (join made o)

  regroup : (a b : A) (x : X) → ((o : O) → join b o ≡ join a (cons x o)) → (m : Result O ParseFault)
      → ahead b m ≡ ahead a (m >>= λ o. Ok (cons x o))
  regroup a b x pushed (Ok o) = ap (λ r. Ok r) (pushed o)
  regroup a b x pushed (Err e) = refl

  pub makes : (s t : S) (ys : List Y) (n : ℕ) (y d : Y) (a b : A) (x : X) → y ≡ get_or ys n d → n < length ys
      → ((o : O) → join b o ≡ join a (cons x o)) → one s y ≡ Ok (x, t)
      → ahead b (all t (drop (n + 1) ys)) ≡ ahead a (all s (drop n ys))
  makes s t ys n y d a b x e l pushed is = let left = drop (n + 1) ys in
      regroup a b x pushed (all t left)
      ∙ sym (ap (λ zs. ahead a (all s zs)) (left_at ys n y d e l) ∙ ap (ahead a) (goes s y left
      ∙ ap (λ r. r >>= λ f. all f.1 left >>= λ o. Ok (cons f.0 o)) is))

  pub makes_none : (s : S) (ys : List Y) (n : ℕ) (y d : Y) (a : A) (e : ParseFault) (total : Result O ParseFault)
      → y ≡ get_or ys n d → n < length ys → FailsAs e (one s y) → ahead a (all s (drop n ys)) ≡ total → FailsAs e total
  makes_none s ys n y d a e total is l fails so_far = let left = drop (n + 1) ys in
      fails_along e _ total
      (sym (ap (λ zs. ahead a (all s zs)) (left_at ys n y d is l) ∙ ap (ahead a) (goes s y left)) ∙ so_far)
      (bind_stops e _ (λ o. Ok (join a o))
      (bind_stops e (one s y) (λ f. all f.1 left >>= λ o. Ok (cons f.0 o)) fails))

  pub made : (s : S) (ys : List Y) (n : ℕ) (a : A) (total : Result O ParseFault) → length ys ≤ n
      → ahead a (all s (drop n ys)) ≡ total → total ≡ ahead a (all s [])
  made s ys n a total l so_far = sym so_far ∙ ap (λ zs. ahead a (all s zs)) (drop_of_length-le ys l)
