use Rattle.std.proofs.Common.{drop}
use Rattle.plc_infer.specs.Programs.{program_of}
use Rattle.plc_infer.specs.Graphs.{graph_of}
use Rattle.plc_infer.specs.Starts.{starts_of}
use Rattle.plc_infer.specs.WorkLists.{UnderWay, Unasked, Gains}
use Rattle.plc_infer.proofs.fixpoint.relax_all.Given as goal

abbrev pub invariant-loop-k : goal.invariant-loop-k
invariant-loop-k l = record {
  under_way : UnderWay (graph_of l.observer (program_of l.program)) Unasked (starts_of l.observer (program_of l.program)) l.envs.items l.list.queue.items l.list.marks.items (drop l.k-index l.steps);
  gains : Gains (graph_of l.observer (program_of l.program)) l.fn.envs.items l.envs.items l.fn.list.queue.items l.list.queue.items;
}
