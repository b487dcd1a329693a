-- The opposites of tests: each is a test, and the relations of data are opposed where they should be.
use Rattle.std.proofs.Common.{◌≡◌, ℕ, Bool, true, false, not, nat_lt, nat_le, refl, arith}
use Rattle.std.proofs.lemmas.Bool.Decides.{nat_tests}
use Rattle.plc_lang.specs.declared.syntax.Primitive.{Primitive}
use Rattle.plc_lang.specs.declared.syntax.Primitive.TheVariants as prims
use Rattle.plc_lang.specs.declared.syntax.Rel.TheVariants as rels
use Rattle.plc_lang.specs.declared.syntax.Rel.{Rel}
use Rattle.plc_lang.specs.declared.syntax.Num.{Num}
use Rattle.plc_lang.specs.declared.syntax.Var.{Var}
use Rattle.plc_lang.specs.WellSorted.{is_test, is_claim}
use Rattle.plc_flow.specs.Sides.{opposite}
use Rattle.plc_flow.specs.Laws.{OppositesAreTests}

-- what holds of each kind of test holds of every test
pub of_each_test : (P : Primitive → Type 0) → ((p q : Var) → P (prims.Eq p q)) → ((p q : Var) → P (prims.Ne p q))
    → ((p : Var) → P (prims.IsNull p)) → ((p : Var) → P (prims.NotNull p))
    → ((r : Rel) (x : ℕ) (e : Num) → P (prims.DataTest r x e)) → ((p : Var) (m : Bool) → P (prims.MarkTest p m))
    → (k : Primitive) → is_test k ≡ true → P k
of_each_test P eq ne is_null not_null data_test mark_test (prims.Eq p q) i = eq p q
of_each_test P eq ne is_null not_null data_test mark_test (prims.Ne p q) i = ne p q
of_each_test P eq ne is_null not_null data_test mark_test (prims.IsNull p) i = is_null p
of_each_test P eq ne is_null not_null data_test mark_test (prims.NotNull p) i = not_null p
of_each_test P eq ne is_null not_null data_test mark_test (prims.DataTest r x e) i = data_test r x e
of_each_test P eq ne is_null not_null data_test mark_test (prims.MarkTest p m) i = mark_test p m
of_each_test P eq ne is_null not_null data_test mark_test k i = cc

-- of `<` and `>=` exactly one holds
pub below : (m n : ℕ) → nat_lt m n ≡ not (nat_le n m)
below m n = grind (arith, nat_tests)

pub not_below : (m n : ℕ) → nat_le n m ≡ not (nat_lt m n)
not_below m n = grind (arith, nat_tests)

tests : (k : Primitive) → is_test k ≡ true → is_test (opposite k) ≡ true
tests = of_each_test (λ k. is_test (opposite k) ≡ true) (λ p q. refl) (λ p q. refl) (λ p. refl) (λ p. refl) data_test
    (λ p m. refl)
  where
    data_test : (r : Rel) (x : ℕ) (e : Num) → is_test (opposite (prims.DataTest r x e)) ≡ true
    data_test rels.Eq x e = refl
    data_test rels.Ne x e = refl
    data_test rels.Lt x e = refl
    data_test rels.Ge x e = refl

back : (k : Primitive) → is_test k ≡ true → opposite (opposite k) ≡ k
back = of_each_test (λ k. opposite (opposite k) ≡ k) (λ p q. refl) (λ p q. refl) (λ p. refl) (λ p. refl) data_test
    mark_test
  where
    data_test : (r : Rel) (x : ℕ) (e : Num) → opposite (opposite (prims.DataTest r x e)) ≡ prims.DataTest r x e
    data_test rels.Eq x e = refl
    data_test rels.Ne x e = refl
    data_test rels.Lt x e = refl
    data_test rels.Ge x e = refl

    mark_test : (p : Var) (m : Bool) → opposite (opposite (prims.MarkTest p m)) ≡ prims.MarkTest p m
    mark_test p true = refl
    mark_test p false = refl

no_claims : (k : Primitive) → is_test k ≡ true → is_claim k ≡ false
no_claims =
    of_each_test (λ k. is_claim k ≡ false) (λ p q. refl) (λ p q. refl) (λ p. refl) (λ p. refl) (λ r x e. refl)
    (λ p m. refl)

pub opposites_are_tests : OppositesAreTests
opposites_are_tests = record { tests = tests; back = back; no_claims = no_claims }
