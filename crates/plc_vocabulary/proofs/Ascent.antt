-- The numbers of a file ascend, and are those that stand in it.
use Rattle.std.proofs.Common.{◌≡◌, ◌==◌, ◌<◌, ◌+◌, ◌||◌, ℕ, zero, suc, Bool, true, false, List, [], ◌∷◌, length, slice_index, refl, sym, ap, subst, ◌∙◌, arith}
use Rattle.std.specs.List.{list_any}
use Rattle.std.specs.BTreeSet.{insert_key}
use Rattle.std.specs.Ordering.{nat_cmp, match_ordering, MatchOrdering}
use Rattle.std.specs.Cmp.{ranked}
use Rattle.std.specs.declared.cmp.Ordering.{Ordering}
use Rattle.std.specs.declared.cmp.Ordering.TheVariants.{Less, Equal, Greater}
use Rattle.plc_flow.specs.declared.flow.Flow.{Flow}
use Rattle.plc_logic.specs.declared.clause.Outline.{Outline}
use Rattle.plc_vocabulary.specs.Setting.{all_numbers, with_numbers, numbers_of}
use Rattle.plc_vocabulary.specs.Numbers.{NumbersFit}

-- each above the one before, the first above a bound
abbrev Rises : ℕ → List ℕ → Type 0
Rises b [] = Unit {0}
Rises b (x ∷ xs) = (b < x) × Rises x xs

abbrev Ascends : List ℕ → Type 0
Ascends [] = Unit {0}
Ascends (x ∷ xs) = Rises x xs

insert_rises : (b : ℕ) (ks : List ℕ) (n : ℕ) → b < n → Rises b ks → Rises b (insert_key nat_cmp ks n)
insert_rises b [] n less r = (less, tt)
insert_rises b (x ∷ xs) n less r = go (nat_cmp n x) (ranked n x (nat_cmp n x) refl) less r (λ h. insert_rises x xs n h r.1)
  where
    go : (o : Ordering) → MatchOrdering o (n < x) (n ≡ x) (x < n) → b < n → Rises b (x ∷ xs) → (x < n → Rises x (insert_key nat_cmp xs n)) → Rises b (match_ordering o (n ∷ x ∷ xs) (x ∷ xs) (x ∷ insert_key nat_cmp xs n))
    go Less h below s rest = (below, (h, s.1))
    go Equal h below s rest = s
    go Greater h below s rest = (s.0, rest h)

insert_ascends : (ks : List ℕ) (n : ℕ) → Ascends ks → Ascends (insert_key nat_cmp ks n)
insert_ascends [] n r = tt
insert_ascends (x ∷ xs) n r = go (nat_cmp n x) (ranked n x (nat_cmp n x) refl) r
  where
    go : (o : Ordering) → MatchOrdering o (n < x) (n ≡ x) (x < n) → Rises x xs → Ascends (match_ordering o (n ∷ x ∷ xs) (x ∷ xs) (x ∷ insert_key nat_cmp xs n))
    go Less h s = (h, s)
    go Equal h s = s
    go Greater h s = insert_rises x xs n h s

all_ascend : (ks ns : List ℕ) → Ascends ks → Ascends (with_numbers ks ns)
all_ascend ks [] r = r
all_ascend ks (n ∷ ns) r = all_ascend (insert_key nat_cmp ks n) ns (insert_ascends ks n r)

increasing : (x : ℕ) (xs : List ℕ) (k : ℕ) → Rises x xs → k + 1 < length (x ∷ xs) → slice_index (x ∷ xs) k < slice_index (x ∷ xs) (k + 1)
increasing x [] k r h = absurd (omega arith)
increasing x (y ∷ ys) zero r h = r.0
increasing x (y ∷ ys) (suc k) r h =
    let next : suc (k + 1) ≡ suc k + 1 = omega arith in
    subst (λ m. slice_index (y ∷ ys) k < slice_index (x ∷ y ∷ ys) m) next (increasing y ys k r.1 (omega arith))

ascending : (xs : List ℕ) → Ascends xs → (k : ℕ) → k + 1 < length xs → slice_index xs k < slice_index xs (k + 1)
ascending [] r k h = absurd (omega arith)
ascending (x ∷ xs) r k h = increasing x xs k r h

-- ---- which they are

or_swap : (a b c : Bool) → (a || (b || c)) ≡ (b || (a || c))
or_swap true true c = refl
or_swap true false c = refl
or_swap false true c = refl
or_swap false false c = refl

or_twice : (a c : Bool) → (a || c) ≡ (a || (a || c))
or_twice true c = refl
or_twice false c = refl

or_group : (a b c : Bool) → ((a || b) || c) ≡ (b || (a || c))
or_group true true c = refl
or_group true false c = refl
or_group false true c = refl
or_group false false c = refl

or_none : (a : Bool) → a ≡ (a || false)
or_none true = refl
or_none false = refl

module _ (m : ℕ) where
  abbrev has : List ℕ → Bool
  has xs = list_any (λ k. k == m) xs

  insert_has : (ks : List ℕ) (n : ℕ) → has (insert_key nat_cmp ks n) ≡ ((n == m) || has ks)
  insert_has [] n = refl
  insert_has (x ∷ xs) n = go (nat_cmp n x) (ranked n x (nat_cmp n x) refl) (insert_has xs n)
    where
      go : (o : Ordering) → MatchOrdering o (n < x) (n ≡ x) (x < n) → has (insert_key nat_cmp xs n) ≡ ((n == m) || has xs) → has (match_ordering o (n ∷ x ∷ xs) (x ∷ xs) (x ∷ insert_key nat_cmp xs n)) ≡ ((n == m) || ((x == m) || has xs))
      go Less h rest = refl
      go Equal h rest = or_twice (x == m) (has xs) ∙ ap (λ y. (y == m) || ((x == m) || has xs)) (sym h)
      go Greater h rest = ap (λ b. (x == m) || b) rest ∙ or_swap (x == m) (n == m) (has xs)

  all_has : (ks ns : List ℕ) → has (with_numbers ks ns) ≡ (has ns || has ks)
  all_has ks [] = refl
  all_has ks (n ∷ ns) =
      all_has (insert_key nat_cmp ks n) ns ∙ ap (λ b. has ns || b) (insert_has ks n) ∙ sym (or_group (n == m) (has ns) (has ks))

pub numbers_fit : (flow : Flow) (outline : Outline) → NumbersFit flow outline
numbers_fit flow outline = record {
  ascending = ascending (numbers_of flow outline) (all_ascend [] (all_numbers flow outline) tt);
  same = λ n. all_has n [] (all_numbers flow outline) ∙ sym (or_none (list_any (λ k. k == n) (all_numbers flow outline)));
}
