use Rattle.plc_infer.proofs.Noted.{one_back}
use Rattle.plc_infer.proofs.resuming.put_back.Goals as goal

pub loop-last-preserved : goal.loop-last-preserved
loop-last-preserved c =
    let back = one_back c.loop-last.envs.items c.loop-last.replaced.items c.pop.new.self.items c.in-Some.last _
    c.in-Some.ensures.items c.loop-last.invariant.left c.loop-last.invariant.within in
    record { left = back.0; within = back.1 }
