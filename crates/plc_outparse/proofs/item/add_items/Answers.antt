use Rattle.std.proofs.Common.{◌∙◌}
use Rattle.std.proofs.lemmas.Result.{err_from_is_err_and}
use Rattle.plc_tree.specs.FormViews.{item_tree}
use Rattle.plc_outparse.specs.Meaning.{item_step}
use Rattle.plc_outparse.specs.Views.{parts_of}
use Rattle.plc_outparse.proofs.InTurn.{taken, refused, all_taken}
use Rattle.plc_outparse.proofs.item.add_items.Goals as goal

pub loop-item-preserved : goal.loop-item-preserved
loop-item-preserved c =
    let l = c.loop-item in
    taken (item_step c.args.context.now.scope.now c.args.context.now.ops.now c.args.context.now.by_op.now) item_tree
    (parts_of l.parts) (parts_of c.add_item.new.parts) c.args.items.now l.item-index c.item-item.result _ c.item-item.is
    c.loop-item-test.true c.in_ok-add_item.ensures ∙ l.invariant

pub returns-in_err-add_item : goal.returns-in_err-add_item
returns-in_err-add_item c =
    let l = c.loop-item in
    let p = err_from_is_err_and c.from_residual.result c.from_residual.ensures.1 in
    rw (p.1, p.2) (refused (item_step c.args.context.now.scope.now c.args.context.now.ops.now
    c.args.context.now.by_op.now) item_tree (parts_of l.parts) c.args.items.now l.item-index c.item-item.result _ _ _
    c.item-item.is c.loop-item-test.true c.in_err-add_item.ensures l.invariant)

pub returns : goal.returns
returns c =
    let l = c.loop-item in
    all_taken (item_step c.args.context.now.scope.now c.args.context.now.ops.now c.args.context.now.by_op.now) item_tree
    (parts_of l.parts) c.args.items.now l.item-index _ c.loop-item-test.false l.invariant
