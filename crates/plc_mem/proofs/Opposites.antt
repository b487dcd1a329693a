-- Of a test and its opposite exactly one goes in each state of memory: a row for each kind of test.
use Rattle.std.proofs.Common.{◌≡◌, ℕ, Bool, true, false, not, ◌==◌, refl, sym}
use Rattle.std.proofs.Math.Bool.{not-not}
use Rattle.plc_lang.specs.declared.syntax.Primitive.TheVariants.{DataTest}
use Rattle.plc_lang.specs.declared.syntax.Num.{Num}
use Rattle.plc_lang.specs.declared.syntax.Rel.{Rel}
use Rattle.plc_lang.specs.declared.syntax.Rel.TheVariants as rels
use Rattle.plc_flow.proofs.Opposites.{of_each_test, below, not_below}
use Rattle.plc_base.specs.Booleans.{same_bool}
use Rattle.plc_mem.specs.State.{is_null, same_pointer, value_at, number_of}
use Rattle.plc_mem.specs.Primitives.{cell_at}
use Rattle.plc_mem.specs.Laws.{TestHasAnOpposite, TestsHaveOpposites}

-- a mark is the opposite of m exactly where it isn't m
other_mark : (b m : Bool) → same_bool b (not m) ≡ not (same_bool b m)
other_mark true m = refl
other_mark false true = refl
other_mark false false = refl

pub opposed : TestsHaveOpposites
opposed s t a = of_each_test (TestHasAnOpposite s t a)
    (λ p q. record { goes = refl; race = refl; unchanged = refl; silent = refl })
    (λ p q. record { goes = sym (not-not (same_pointer (cell_at s t p) (cell_at s t q))); race = refl; unchanged = refl; silent = refl })
    (λ p. record { goes = refl; race = refl; unchanged = refl; silent = refl })
    (λ p. record { goes = sym (not-not (is_null (cell_at s t p))); race = refl; unchanged = refl; silent = refl })
    data_test
    (λ p m. record { goes = other_mark (cell_at s t p).mark m; race = refl; unchanged = refl; silent = refl })
  where
    data_test : (r : Rel) (x : ℕ) (e : Num) → TestHasAnOpposite s t a (DataTest r x e)
    data_test rels.Eq x e = record { goes = refl; race = refl; unchanged = refl; silent = refl }
    data_test rels.Ne x e = record { goes = sym (not-not (value_at s t x == number_of s t e)); race = refl; unchanged = refl; silent = refl }
    data_test rels.Lt x e = record { goes = not_below (value_at s t x) (number_of s t e); race = refl; unchanged = refl; silent = refl }
    data_test rels.Ge x e = record { goes = below (value_at s t x) (number_of s t e); race = refl; unchanged = refl; silent = refl }
