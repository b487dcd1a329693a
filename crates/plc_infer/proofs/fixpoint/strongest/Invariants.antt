use Rattle.std.proofs.Common.{◌+◌, ◌-◌, ◌*◌, [], length}
use Rattle.plc_infer.specs.Programs.{program_of}
use Rattle.plc_infer.specs.Graphs.{graph_of}
use Rattle.plc_infer.specs.Iteration.{total}
use Rattle.plc_infer.specs.Starts.{starts_of}
use Rattle.plc_infer.specs.WorkLists.{UnderWay, Unasked}
use Rattle.plc_infer.proofs.fixpoint.strongest.Given as goal

abbrev pub invariant-loop-point : goal.invariant-loop-point
invariant-loop-point l = UnderWay (graph_of l.observer (program_of l.program)) Unasked (starts_of l.observer (program_of l.program)) l.envs.items l.list.queue.items l.list.marks.items []

abbrev pub decreases-loop-point : goal.decreases-loop-point
decreases-loop-point l = let graph = graph_of l.observer (program_of l.program) in graph.points * graph.most - total graph l.envs.items + length l.list.queue.items
