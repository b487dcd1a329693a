use Rattle.std.proofs.Common.{◌≡◌}
use Rattle.plc_infer.specs.WorkLists.{numbers}
use Rattle.plc_infer.proofs.work_list.WorkList.of_all.Given as goal

abbrev pub invariant-loop-point : goal.invariant-loop-point
invariant-loop-point l = l.queue.items ≡ numbers l.point
