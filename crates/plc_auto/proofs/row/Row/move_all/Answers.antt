use Rattle.std.proofs.Common.{ap, ◌∙◌}
use Rattle.plc_auto.specs.Moves.{with_one}
use Rattle.plc_auto.proofs.Moving.{row_more}
use Rattle.plc_auto.proofs.row.Row.move_all.Goals as goal

pub loop-i-preserved : goal.loop-i-preserved
loop-i-preserved c =
    c.move_one.ensures ∙ ap (with_one _ c.kind-kind.result c.is_own-own.result c.args.on_this c.loop-i.i) c.loop-i.invariant
    ∙ row_more c.args.e.now c.args.on_this c.args.watchers.now c.args.self.now c.loop-i.i _ c.kind-kind.result c.is_own-own.result c.loop-i-test.true c.kind-kind.ensures c.is_own-own.ensures
