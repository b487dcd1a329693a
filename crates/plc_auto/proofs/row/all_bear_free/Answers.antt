use Rattle.std.proofs.Common.{false, true, map, sym, ◌∙◌}
use Rattle.plc_auto.specs.Table.{target_of}
use Rattle.plc_auto.proofs.Moving.{asked}
use Rattle.plc_auto.proofs.row.all_bear_free.Goals as goal

pub returns-then-not-bears_free : goal.returns-then-not-bears_free
returns-then-not-bears_free c =
    asked c.args.a c.args.watchers.now (map target_of c.args.at.now) c.loop-i.i _ _ false _ c.loop-i-test.true c.location_at.ensures (sym c.if-not-bears_free.true ∙ c.bears_free.ensures) c.loop-i.invariant

pub loop-i-preserved : goal.loop-i-preserved
loop-i-preserved c =
    asked c.args.a c.args.watchers.now (map target_of c.args.at.now) c.loop-i.i _ _ true _ c.loop-i-test.true c.location_at.ensures (sym c.if-not-bears_free.false ∙ c.bears_free.ensures) c.loop-i.invariant
