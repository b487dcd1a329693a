-- A thread that is in an operation.
use Rattle.std.specs.Prelude.{ℕ}
use Rattle.plc_flow.specs.declared.flow.Flow.{Flow}
use Rattle.plc_flow.specs.declared.points.Point.{Point}
use Rattle.plc_moves.specs.Fit.{HoldsAt}
use Rattle.plc_mem.specs.State.{State}
use Rattle.plc_run.specs.Fit.{LocalsFit}

-- a thread at this point holds the locals of the point's operation
abbrev pub IsBusyAt : Flow → State → ℕ → Point → Type 0
IsBusyAt flow s t p = HoldsAt flow (LocalsFit flow s) s.locals t p
