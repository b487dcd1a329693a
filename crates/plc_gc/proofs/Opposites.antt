-- Of a test and its opposite exactly one goes in each garbage-collected state: a row for each kind of test.
use Rattle.std.proofs.Common.{ℕ, Bool, true, false, ◌==◌, refl, sym}
use Rattle.std.proofs.Math.Bool.{not-not}
use Rattle.plc_lang.specs.declared.syntax.Primitive.TheVariants.{DataTest, MarkTest}
use Rattle.plc_lang.specs.declared.syntax.Var.{Var}
use Rattle.plc_lang.specs.declared.syntax.Num.{Num}
use Rattle.plc_lang.specs.declared.syntax.Rel.{Rel}
use Rattle.plc_lang.specs.declared.syntax.Rel.TheVariants as rels
use Rattle.plc_flow.proofs.Opposites.{of_each_test, below, not_below}
use Rattle.plc_gc.specs.declared.slot.Slot.TheVariants.{Data as in_data}
use Rattle.plc_gc.specs.State.{value, number_of}
use Rattle.plc_gc.specs.Primitives.{node_at, same_pointer, is_marked}
use Rattle.plc_gc.specs.Laws.{TestHasAnOpposite, CollectedTestsHaveOpposites}

pub opposed : CollectedTestsHaveOpposites
opposed g t = of_each_test (TestHasAnOpposite g t)
    (λ p q. record { goes = refl; unchanged = refl })
    (λ p q. record { goes = sym (not-not (same_pointer g t p q)); unchanged = refl })
    (λ p. record { goes = refl; unchanged = refl })
    (λ p. record { goes = sym (not-not (node_at g t p == 0)); unchanged = refl })
    data_test mark_test
  where
    data_test : (r : Rel) (x : ℕ) (e : Num) → TestHasAnOpposite g t (DataTest r x e)
    data_test rels.Eq x e = record { goes = refl; unchanged = refl }
    data_test rels.Ne x e = record { goes = sym (not-not (value g (in_data t x) == number_of g t e)); unchanged = refl }
    data_test rels.Lt x e = record { goes = not_below (value g (in_data t x)) (number_of g t e); unchanged = refl }
    data_test rels.Ge x e = record { goes = below (value g (in_data t x)) (number_of g t e); unchanged = refl }

    mark_test : (p : Var) (m : Bool) → TestHasAnOpposite g t (MarkTest p m)
    mark_test p true = record { goes = refl; unchanged = refl }
    mark_test p false = record { goes = sym (not-not (is_marked g t p)); unchanged = refl }
