use Rattle.std.proofs.Common.{◌≡◌, true, subst}
use Rattle.plc_logic.specs.Sorts.{same_sort}
use Rattle.plc_logic.proofs.Sorts.{same_sort_true, same_sort_refl}
use Rattle.plc_logic.proofs.equality.same_sort_is_equality.Goals as goal

pub returns : goal.returns
returns c = record {
  equal_pass = λ a b e. subst (λ x. same_sort a x ≡ true) e (same_sort_refl a);
  passing_are_equal = same_sort_true;
}
