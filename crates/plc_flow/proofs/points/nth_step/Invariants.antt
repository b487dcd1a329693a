use Rattle.std.proofs.Common.{◌≡◌, drop, filter, slice_get}
use Rattle.plc_flow.specs.Points.{leaves}
use Rattle.plc_flow.proofs.points.nth_step.Given as goal

abbrev pub invariant-loop-step : goal.invariant-loop-step
invariant-loop-step l = slice_get (filter (leaves l.at) (drop l.step-index l.step-items)) l.left ≡ slice_get (filter (leaves l.at) l.flow.steps) l.nth
