-- The test of equality of sorts holds of one sort alone.
use Rattle.std.proofs.Common.{◌≡◌, true, refl, ap}
use Rattle.std.proofs.lemmas.Bool.{eqb-true, eq-eqb}
use Rattle.plc_logic.specs.declared.clause.Sort.{Sort}
use Rattle.plc_logic.specs.declared.clause.Sort.TheVariants as sorts
use Rattle.plc_logic.specs.Sorts.{same_sort}

pub same_sort_true : (a b : Sort) → same_sort a b ≡ true → a ≡ b
same_sort_true sorts.Node sorts.Node h = refl
same_sort_true sorts.Number sorts.Number h = refl
same_sort_true sorts.Thread sorts.Thread h = refl
same_sort_true (sorts.Value g) (sorts.Value k) h = ap sorts.Value (eqb-true g k h)
same_sort_true sorts.Truth sorts.Truth h = refl
same_sort_true _ _ h = cc

pub same_sort_refl : (a : Sort) → same_sort a a ≡ true
same_sort_refl sorts.Node = refl
same_sort_refl sorts.Number = refl
same_sort_refl sorts.Thread = refl
same_sort_refl (sorts.Value g) = eq-eqb g g refl
same_sort_refl sorts.Truth = refl
