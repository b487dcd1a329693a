use Rattle.std.proofs.Common.{arith, ◌++◌, ◌∷◌, [], length, ap, sym, ◌∙◌}
use Rattle.plc_ground.specs.declared.terms.Node.TheVariants.{Split}
use Rattle.plc_oblig.specs.Direct.{splits}
use Rattle.plc_oblig.proofs.Ending.{ends_short, splits_more}
use Rattle.plc_oblig.proofs.refuted.tree_of.Goals as goal

pub loop-unit-preserved : goal.loop-unit-preserved
loop-unit-preserved c =
    let count = c.len.ensures in
    let from = c.loop-unit.auto.unit in
    c.in_ok-push.ensures.ok ∙ ap (λ ns. ns ++ Split c.loop-unit.unit ∷ []) c.loop-unit.invariant
    ∙ sym (splits_more _ c.loop-unit.unit (omega arith))

pub loop-l-init : goal.loop-l-init
loop-l-init c =
    let short = ends_short c.args.set.now c.args.c c.requires.refuted in
    let same = ap length c.clause-literals.ensures in
    let count = c.len.ensures in
    let end = c.len-unit-end.ensures in
    let from = c.loop-unit.auto.unit in
    let upto = c.loop-unit.auto.unit-end in
    let done = c.loop-unit-test.false in
    c.in_ok-push-2.ensures.ok
    ∙ ap (λ ns. ns ++ Split c.args.c ∷ []) (c.loop-unit.invariant ∙ ap (splits _) (omega arith))
