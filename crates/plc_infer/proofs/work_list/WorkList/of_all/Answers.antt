use Rattle.plc_infer.proofs.Lists.{numbers_more}
use Rattle.plc_infer.proofs.work_list.WorkList.of_all.Goals as goal

pub loop-point-preserved : goal.loop-point-preserved
loop-point-preserved c = rw (c.in_ok-push_back.ensures.items, c.loop-point.invariant) (numbers_more c.loop-point.point)
