use Rattle.std.proofs.Common.{◌+◌, ◌-◌, ◌*◌, [], length}
use Rattle.plc_infer.specs.Programs.{program_of}
use Rattle.plc_infer.specs.Graphs.{graph_of}
use Rattle.plc_infer.specs.Iteration.{total}
use Rattle.plc_infer.specs.Starts.{starts_of}
use Rattle.plc_infer.specs.WorkLists.{UnderWay}
use Rattle.plc_infer.specs.Trials.{MeetsAll, IsNoted}
use Rattle.plc_infer.proofs.resuming.resume.Given as goal

abbrev pub invariant-loop-point : goal.invariant-loop-point
invariant-loop-point l =
    let graph = graph_of l.observer (program_of l.program) in
    record {
      under_way : UnderWay graph (MeetsAll graph) (starts_of l.observer (program_of l.program)) l.envs.items
          l.work.list.queue.items l.work.list.marks.items [];
      noted : IsNoted l.fn.envs.items l.envs.items [] l.work.replaced.items;
    }

abbrev pub decreases-loop-point : goal.decreases-loop-point
decreases-loop-point l =
    let graph = graph_of l.observer (program_of l.program) in
    graph.points * graph.most - total graph l.envs.items + length l.work.list.queue.items
