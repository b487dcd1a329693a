use Rattle.std.proofs.Common.{[], drop, map}
use Rattle.plc_logic.specs.declared.clause.Item.{Item}
use Rattle.plc_logic.specs.Sites.{op_of_site}
use Rattle.plc_syntax.specs.Trees.{each_then, item_then}
use Rattle.plc_print.specs.Outlines.{clause_tree, site_tree, locals_in_reach}
use Rattle.plc_print.proofs.Left.{Left}
use Rattle.plc_print.proofs.outlines.items.Given as goal

abbrev pub invariant-loop-at_points : goal.invariant-loop-at_points
invariant-loop-at_points l =
    let tree = λ (i : Item). site_tree l.file i.site (clause_tree l.file (locals_in_reach l.file (op_of_site l.by_op i.site)) i.clause) in
    Left l.initial.out l.out (each_then item_then (map tree l.items) []) (each_then item_then (map tree (drop l.at_points-index l.items)) [])
