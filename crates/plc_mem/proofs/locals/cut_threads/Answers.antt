use Rattle.std.proofs.Common.{ap, set}
use Rattle.plc_mem.specs.State.{cut_locals}
use Rattle.plc_base.proofs.Lists.{mapped_more}
use Rattle.plc_mem.proofs.locals.cut_threads.Goals as goal

pub loop-held-preserved : goal.loop-held-preserved
loop-held-preserved c = mapped_more (cut_locals c.args.a) c.args.locals.now c.loop-held.locals _ c.loop-held.held-index c.held-item.result c.loop-held-test.true c.loop-held.invariant (ap (set c.loop-held.locals c.loop-held.held-index) c.cut_held.ensures)
