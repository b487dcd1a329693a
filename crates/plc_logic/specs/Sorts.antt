-- Whether two sorts are one, as the program compares them: that this is equality is the law `same_sort_is_equality`.
use Rattle.std.specs.Prelude.{◌≡◌, Bool, true}
use Rattle.plc_logic.specs.declared.clause.Sort.{Sort}
use Rattle.plc_logic.specs.contracts.clause.SortPartialEq.TheImpl.{eq-value}

-- two sorts are one
abbrev pub same_sort : Sort → Sort → Bool
same_sort a b = eq-value.it a b

-- the test holds of equal sorts, and of no others
pub record SameSortIsEquality : Type 0 where
  pub equal_pass : (a b : Sort) → a ≡ b → same_sort a b ≡ true
  pub passing_are_equal : (a b : Sort) → same_sort a b ≡ true → a ≡ b
