use Rattle.std.proofs.Common.{◌∙◌, refl}
use Rattle.std.proofs.lemmas.Result.{err_from_is_err_and}
use Rattle.plc_syntax.specs.Views.{name_tree}
use Rattle.plc_outparse.specs.Meaning.{label_step}
use Rattle.plc_outparse.proofs.InTurn.{taken, refused, all_taken}
use Rattle.plc_outparse.proofs.site.add_labels.Goals as goal

pub loop-name-preserved : goal.loop-name-preserved
loop-name-preserved c =
    let l = c.loop-name in
    taken (label_step c.args.context.now.scope.now c.args.context.now.by_op.now c.args.op) name_tree l.labels
    c.add_label.new.labels c.args.names.now l.name-index _ _ refl c.loop-name-test.true c.in_ok-add_label.ensures
    ∙ l.invariant

pub returns-in_err-add_label : goal.returns-in_err-add_label
returns-in_err-add_label c =
    let l = c.loop-name in
    let p = err_from_is_err_and c.from_residual.result c.from_residual.ensures.1 in
    rw (p.1, p.2) (refused (label_step c.args.context.now.scope.now c.args.context.now.by_op.now c.args.op) name_tree
    l.labels c.args.names.now l.name-index _ _ _ _ refl c.loop-name-test.true c.in_err-add_label.ensures l.invariant)

pub returns : goal.returns
returns c =
    let l = c.loop-name in
    all_taken (label_step c.args.context.now.scope.now c.args.context.now.by_op.now c.args.op) name_tree l.labels
    c.args.names.now l.name-index _ c.loop-name-test.false l.invariant
