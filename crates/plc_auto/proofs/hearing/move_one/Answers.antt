use Rattle.std.proofs.Common.{ap, set}
use Rattle.plc_base.proofs.Lists.{mapped_more}
use Rattle.plc_auto.specs.Moves.{one_elsewhere}
use Rattle.plc_auto.proofs.hearing.move_one.Goals as goal

pub loop-row-preserved : goal.loop-row-preserved
loop-row-preserved c = mapped_more (one_elsewhere c.args.observer.now c.args.kind c.args.named c.args.i) c.args.rows.now c.loop-row.rows _ c.loop-row.row-index c.row-item.result c.loop-row-test.true c.loop-row.invariant (ap (set c.loop-row.rows c.loop-row.row-index) c.hear_elsewhere.ensures)
