-- The clauses at a point are those that the numbers of its items name.
use Rattle.std.proofs.Common.{◌≡◌, ◌<◌, ℕ, zero, suc, ◌+◌, Bool, true, false, cond, List, [], ◌∷◌, length}
use Rattle.std.proofs.Common.{map, filter, slice_get, Option, Some, None, option_map}
use Rattle.std.proofs.Common.{refl, sym, ap, subst, ◌∙◌, arith}
use Rattle.plc_flow.specs.declared.flow.Flow.{Flow}
use Rattle.plc_logic.specs.declared.clause.Clause.{Clause}
use Rattle.plc_logic.specs.declared.clause.Item.{Item}
use Rattle.plc_vocabulary.specs.Points.{stands_at}
use Rattle.plc_sentences.specs.Clauses.{numbers_from}

-- the clauses of items
abbrev clauses_in : List Item → List Clause
clauses_in is = map (λ (i : Item). i.clause) is

-- the clause of the item at a place
abbrev pub clause_at : List Item → ℕ → Option Clause
clause_at is n = option_map (λ (i : Item). i.clause) (slice_get is n)

-- a number over a list whose items are counted from b on names this clause, and none names none
abbrev pub Names : List Item → ℕ → Option ℕ → Option Clause → Type 0
Names is b None y = None ≡ y
Names is b (Some k) y = (n : ℕ) × (k ≡ b + n) × (n < length is) × (clause_at is n ≡ y)

further : (i : Item) (is : List Item) (b : ℕ) (r : Option ℕ) (y : Option Clause) → Names is (b + 1) r y
    → Names (i ∷ is) b r y
further i is b None y h = h
further i is b (Some k) y h = (suc (h.0), omega (arith, h.1), omega (arith, h.2), h.3)

module _ (flow : Flow) (p : ℕ) where
  abbrev standing : List Item → List Item
  standing is = filter (stands_at flow p) is

  abbrev numbers : ℕ → List Item → List ℕ
  numbers b is = numbers_from flow p b is

  abbrev Each : List Item → ℕ → ℕ → Type 0
  Each is b v = Names is b (slice_get (numbers b is) v) (slice_get (clauses_in (standing is)) v)

  pub named : (is : List Item) (b v : ℕ) → Each is b v
  named [] b v = refl
  named (i ∷ is) b v = go (λ w. named is (b + 1) w) (stands_at flow p i) v
    where
      go : ((w : ℕ) → Each is (b + 1) w) → (y : Bool) → (v : ℕ)
          → Names (i ∷ is) b (slice_get (cond y (b ∷ numbers (b + 1) is) (numbers (b + 1) is)) v)
          (slice_get (clauses_in (cond y (i ∷ standing is) (standing is))) v)
      go rest true zero = (zero, omega arith, omega arith, refl)
      go rest true (suc w) = further i is b _ _ (rest w)
      go rest false w = further i is b _ _ (rest w)

  -- a number names its clause by its place among all items
  pub named_some : (is : List Item) (v k : ℕ) → Some k ≡ slice_get (numbers 0 is) v
      → (k < length is) × (clause_at is k ≡ slice_get (clauses_in (standing is)) v)
  named_some is v k e =
      let h = subst (λ (r : Option ℕ). Names is 0 r (slice_get (clauses_in (standing is)) v)) (sym e) (named is 0 v) in
      let same : k ≡ h.0 = omega (arith, h.1) in
      (omega (arith, same, h.2), ap (clause_at is) same ∙ h.3)

  -- where no number is left there is no clause
  pub named_none : (is : List Item) (v : ℕ) → None ≡ slice_get (numbers 0 is) v
      → None ≡ slice_get (clauses_in (standing is)) v
  named_none is v e =
      subst (λ (r : Option ℕ). Names is 0 r (slice_get (clauses_in (standing is)) v)) (sym e) (named is 0 v)
