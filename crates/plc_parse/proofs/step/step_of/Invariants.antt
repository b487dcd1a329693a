use Rattle.std.proofs.Common.{◌≡◌, ◌++◌, false, drop, length}
use Rattle.plc_scope.proofs.Turns.{ahead}
use Rattle.plc_parse.specs.Meaning.{before}
use Rattle.plc_parse.proofs.Loops.{forms_from, one_form, forms_go}
use Rattle.plc_parse.proofs.step.step_of.Given as goal

abbrev pub invariant-loop-form : goal.invariant-loop-form
invariant-loop-form g l =
    let k = g.F.StepForm.kind in
    let means = k.means l.scope in
    ahead (forms_from means k.tree) (one_form means k.tree) before (λ ks o. ks ++ o) (forms_go means k.tree)
    l.step.primitives
    (forms_from means k.tree (length l.step.primitives, l.step.has_new) (drop l.form-index l.forms))
    ≡ forms_from means k.tree (0, false) l.fn.forms
