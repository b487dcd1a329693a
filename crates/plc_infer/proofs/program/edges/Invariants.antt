use Rattle.std.proofs.Common.{◌≡◌, ◌++◌, drop, map}
use Rattle.plc_flow.specs.Skeleton.{passage_of}
use Rattle.plc_infer.specs.Programs.{edge_of}
use Rattle.plc_infer.proofs.program.edges.Given as goal

abbrev pub invariant-loop-step : goal.invariant-loop-step
invariant-loop-step l = map edge_of l.edges.items ++ map passage_of (drop l.step-index l.steps) ≡ map passage_of l.flow.steps
