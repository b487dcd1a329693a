-- What is asked of the operations of a file.
use Rattle.std.specs.Prelude.{◌≡◌, ◌≤◌, ℕ, List, length, slice_get, Some}
use Rattle.plc_base.specs.Limits.{most}
use Rattle.plc_base.specs.declared.limits.What1.TheVariants as limits
use Rattle.plc_lang.specs.declared.syntax.Op.{Op}
use Rattle.plc_scope.specs.Scope.{most_locals}

-- operations within the limits of a file
pub record OpsFit (ops : List Op) : Type 0 where
  pub count : length ops ≤ most limits.Ops
  pub locals : (k : ℕ) (o : Op) → slice_get ops k ≡ Some o → length o.locals ≤ most_locals
