-- A thread that is in an operation.
use Rattle.std.specs.Prelude.{ℕ}
use Rattle.plc_flow.specs.declared.flow.Flow.{Flow}
use Rattle.plc_flow.specs.declared.points.Point.{Point}
use Rattle.plc_moves.specs.Fit.{HoldsAt}
use Rattle.plc_gc.specs.State.{GcState}
use Rattle.plc_gc.specs.Threads.{LocalsFit}

-- a thread at this point holds the locals of the point's operation
abbrev pub IsBusyAt : Flow → GcState → ℕ → Point → Type 0
IsBusyAt flow g t p = HoldsAt flow LocalsFit g.locals t p
