use Rattle.std.proofs.Common.{drop}
use Rattle.plc_infer.specs.Programs.{program_of}
use Rattle.plc_infer.specs.Graphs.{graph_of}
use Rattle.plc_infer.specs.Starts.{starts_of}
use Rattle.plc_infer.specs.WorkLists.{UnderWay, Gains}
use Rattle.plc_infer.specs.Trials.{MeetsAll, IsNoted}
use Rattle.plc_infer.proofs.resuming.look_at_all.Given as goal

abbrev pub invariant-loop-k : goal.invariant-loop-k
invariant-loop-k l =
    let graph = graph_of l.observer (program_of l.program) in
    record {
      under_way : UnderWay graph (MeetsAll graph) (starts_of l.observer (program_of l.program)) l.envs.items
          l.work.list.queue.items l.work.list.marks.items (drop l.k-index l.steps);
      gains : Gains graph l.fn.envs.items l.envs.items l.fn.work.list.queue.items l.work.list.queue.items;
      noted : IsNoted l.fn.envs.items l.envs.items l.fn.work.replaced.items l.work.replaced.items;
    }
