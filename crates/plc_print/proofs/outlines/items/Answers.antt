use Rattle.plc_logic.specs.declared.clause.Item.{Item}
use Rattle.plc_logic.specs.Sites.{op_of_site}
use Rattle.plc_syntax.specs.Trees.{item_then}
use Rattle.plc_print.specs.Outlines.{clause_tree, site_tree, locals_in_reach}
use Rattle.plc_print.proofs.Parts.{each_printed, item_leads}
use Rattle.plc_print.proofs.outlines.items.Goals as goal

pub loop-at_points-preserved : goal.loop-at_points-preserved
loop-at_points-preserved c =
    let file = c.args.file.now in
    let tree = λ (i : Item). site_tree file i.site (clause_tree file (locals_in_reach file (op_of_site c.args.by_op.now i.site)) i.clause) in
    each_printed item_then item_leads tree c.args.items.now c.loop-at_points.at_points-index c.at_points-item.result c.loop-at_points-test.true c.at_points-item.is
    c.loop-at_points.out.text.items c.loop-at_points.invariant c.in_ok-item.ensures
