use Rattle.std.proofs.Common.{map, ap, sym, ◌∙◌}
use Rattle.plc_auto.specs.Moves.{one_elsewhere}
use Rattle.plc_auto.proofs.Moving.{watcher_more, watcher_stays, none_moved}
use Rattle.plc_auto.proofs.hearing.move_own.Goals.{then-is_own, else-is_own}
use Rattle.plc_auto.proofs.hearing.move_own.Goals as goal

pub loop-i-init : goal.loop-i-init
loop-i-init c = sym (none_moved c.args.e.now c.args.rows.now)

pub loop-i-preserved : goal.loop-i-preserved
loop-i-preserved c =
    let e = c.args.e.now in
    let ws = c.args.watchers.now in
    elim c.if-is_own.branch [
      | then-is_own w ↦
          w.rows-is ∙ w.move_one.ensures ∙ ap (map (one_elsewhere _ c.kind-kind.result c.address-named.result c.loop-i.i)) c.loop-i.invariant
          ∙ watcher_more e ws c.loop-i.i _ c.args.rows.now c.kind-kind.result c.address-named.result c.loop-i-test.true (sym c.is_own.ensures ∙ w.if-is_own.true) c.kind-kind.ensures c.address-named.ensures
      | else-is_own w ↦ w.rows-is ∙ c.loop-i.invariant ∙ watcher_stays e ws c.loop-i.i _ c.args.rows.now c.loop-i-test.true (sym c.is_own.ensures ∙ w.if-is_own.false)
    ]
