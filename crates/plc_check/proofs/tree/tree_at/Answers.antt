use Rattle.std.proofs.Common.{subst}
use Rattle.plc_check.specs.Counterexamples.{IsShown}
use Rattle.plc_check.proofs.Noting.{alike_tree, tree_more, tree_noted, tree_within}
use Rattle.plc_check.proofs.tree.tree_at.Goals as goal

pub copy_of-requires : goal.copy_of-requires
copy_of-requires c =
    tree_within c.args.program.now.flow.now c.args.program.now.outline.now c.args.noted.now c.args.obligation c.in-Some.at c.in-Some.ensures c.args.trees.now c.requires.noted

pub returns-in-Some-clause-shown : goal.returns-in-Some-clause-shown
returns-in-Some-clause-shown c =
    let t = c.in_ok-copy_of.field-0 in (
      alike_tree c.args.program.now.flow.now c.args.program.now.outline.now c.args.noted.now c.args.obligation c.in-Some.at c.in-Some.ensures c.args.trees.now t c.requires.noted c.in_ok-copy_of.ensures,
      tree_more c.args.program.now.flow.now c.args.program.now.outline.now c.args.trees.now t c.args.noted.now c.requires.noted,
    )

pub returns-in_ok-note-in-Tree-clause-shown : goal.returns-in_ok-note-in-Tree-clause-shown
returns-in_ok-note-in-Tree-clause-shown c =
    let this = subst (IsShown c.args.program.now.flow.now c.args.program.now.outline.now c.args.obligation) c.in-Tree.is c.in_ok-tree.ensures.shown in
    (this, tree_noted c.args.program.now.flow.now c.args.program.now.outline.now c.args.trees.now c.in-Tree.tree c.args.noted.now c.note.new.self c.args.obligation c.requires.noted this c.in_ok-note-in-Tree.ensures)
