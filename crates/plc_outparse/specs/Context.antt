-- What the meaning of an outline asks of what stands around it.
use Rattle.std.specs.Prelude.{◌≤◌, length}
use Rattle.plc_base.specs.Limits.{most}
use Rattle.plc_base.specs.declared.limits.What1.TheVariants as limits
use Rattle.plc_scope.specs.declared.scope.Scope.{Scope}
use Rattle.plc_outparse.specs.Answers.{OpsFit}
use Rattle.plc_outparse.specs.declared.context.Context.{Context}

-- a scope has at most as many labels as a file may have
abbrev pub HasFewLabels : Scope → Type 0
HasFewLabels s = length s.labels ≤ most limits.Labels

-- labels and operations within the limits of a file
pub record IsWithinLimits (context : Context) : Type 0 where
  pub labels : HasFewLabels context.scope.now
  pub ops : OpsFit context.ops.now
