use Rattle.std.proofs.Common.{ap, set, sym, ◌∙◌}
use Rattle.plc_auto.proofs.Moving.{none_named}
use Rattle.plc_base.proofs.Lists.{mapped_more}
use Rattle.plc_auto.specs.Moves.{named_after}
use Rattle.plc_auto.proofs.hearing.move_named.Goals as goal

pub loop-row-preserved : goal.loop-row-preserved
loop-row-preserved c = mapped_more (named_after c.args.e.now c.args.watchers.now) c.args.rows.now c.loop-row.rows _ c.loop-row.row-index c.row-item.result c.loop-row-test.true c.loop-row.invariant (ap (set c.loop-row.rows c.loop-row.row-index) c.hear_named.ensures)

pub returns-then-address-eq0 : goal.returns-then-address-eq0
returns-then-address-eq0 c = none_named c.args.e.now c.args.watchers.now c.args.rows.now (sym c.address.ensures ∙ c.if-address-eq0.true)
