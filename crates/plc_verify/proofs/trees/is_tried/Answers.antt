use Rattle.std.proofs.Common.{refl, sym, ◌∙◌}
use Rattle.std.proofs.lemmas.Bool.{ltb-true}
use Rattle.plc_verify.proofs.Points.{read_item}
use Rattle.plc_verify.proofs.Closing.{tried_closes}
use Rattle.plc_verify.proofs.trees.is_tried.Goals as goal

pub returns-in-Some-get : goal.returns-in-Some-get
returns-in-Some-get c h =
    let small = ltb-true _ _ (sym c.in-Some-get.ensures.lookup.0) in
    tried_closes c.args.evidence.now.program.flow.now c.args.evidence.now.program.outline.now c.args.evidence.now.trees.now c.args.tried.now c.args.o.now c.in-Some.at c.requires c.in-Some.ensures
    c.in-Some-get.other.now c.args.tree.now.nodes (read_item c.args.evidence.now.trees.now c.args.evidence.now.trees.now c.in-Some.at _ refl small c.in-Some-get.ensures.lookup.1) (sym c.as_slice.ensures ∙ c.are_same.ensures h ∙ c.as_slice-in-Some-get.ensures)
