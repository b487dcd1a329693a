use Rattle.std.proofs.Common.{◌∙◌, refl}
use Rattle.std.proofs.lemmas.Result.{err_from_is_err_and}
use Rattle.plc_syntax.specs.Views.{placed_as, literal_tree}
use Rattle.plc_outparse.specs.Meaning.{literal_step}
use Rattle.plc_outparse.specs.Views.{reach_of}
use Rattle.plc_outparse.proofs.InTurn.{taken, refused, all_taken}
use Rattle.plc_outparse.proofs.clause.add_literals.Goals as goal

pub loop-form-preserved : goal.loop-form-preserved
loop-form-preserved c =
    let l = c.loop-form in
    taken (literal_step (reach_of c.args.reach.now)) (placed_as literal_tree) l.literals _ c.args.others.now l.form-index
    _ _ refl c.loop-form-test.true c.in_ok-add_literal.ensures ∙ l.invariant

pub returns-in_err-add_literal : goal.returns-in_err-add_literal
returns-in_err-add_literal c =
    let l = c.loop-form in
    let p = err_from_is_err_and c.from_residual.result c.from_residual.ensures.1 in
    rw (p.1, p.2) (refused (literal_step (reach_of c.args.reach.now)) (placed_as literal_tree) l.literals
    c.args.others.now l.form-index _ _ _ _ refl c.loop-form-test.true c.in_err-add_literal.ensures l.invariant)

pub returns : goal.returns
returns c =
    let l = c.loop-form in
    all_taken (literal_step (reach_of c.args.reach.now)) (placed_as literal_tree) l.literals c.args.others.now
    l.form-index _ c.loop-form-test.false l.invariant
