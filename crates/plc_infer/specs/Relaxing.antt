-- Steps of a program that are relaxed one after another, on the way to its strongest pre-typing.
use Rattle.std.specs.Prelude.{ℕ, List, []}
use Rattle.plc_auto.specs.declared.observer.Observer.{Observer}
use Rattle.plc_type.specs.declared.env.Env.{Env}
use Rattle.plc_infer.specs.declared.program.Program.{Program}
use Rattle.plc_infer.specs.declared.work_list.WorkList.{WorkList}
use Rattle.plc_infer.specs.Programs.{IsProgram, program_of}
use Rattle.plc_infer.specs.Graphs.{graph_of}
use Rattle.plc_infer.specs.Starts.{starts_of}
use Rattle.plc_infer.specs.WorkLists.{UnderWay, Unasked, Gains}

-- these steps may be relaxed
pub record CanRelaxAll (o : Observer) (p : Program) (todo : List ℕ) (envs : List Env) (list : WorkList) : Type 0 where
  pub program : IsProgram (program_of p)
  pub under_way : UnderWay (graph_of o (program_of p)) Unasked (starts_of o (program_of p)) envs list.queue.items
      list.marks.items todo

-- steps were relaxed: none of them is left, and the list grew by no more points than the environments grew
pub record AreRelaxed (o : Observer) (p : Program) (old new : List Env) (before after : WorkList) : Type 0 where
  pub under_way : UnderWay (graph_of o (program_of p)) Unasked (starts_of o (program_of p)) new after.queue.items
      after.marks.items []
  pub gains : Gains (graph_of o (program_of p)) old new before.queue.items after.queue.items
