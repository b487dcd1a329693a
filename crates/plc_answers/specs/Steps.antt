-- The line and the operation of a step, by which answers name what stands in it.
use Rattle.std.specs.Prelude.{ℕ, Option, Some, None}
use Rattle.plc_flow.specs.declared.flow.Step.{Step}

-- the line of a step
abbrev pub step_line : Option Step → ℕ
step_line None = 0
step_line (Some s) = s.line

-- the operation of a step
abbrev pub step_operation : Option Step → ℕ
step_operation None = 0
step_operation (Some s) = s.op.0
