use Rattle.std.proofs.Common.{◌∙◌, ◌+◌, ◌||◌, ◌++◌, ℕ, Bool, length, drop, Ok, ap}
use Rattle.std.proofs.lemmas.List.{append-nil}
use Rattle.std.proofs.lemmas.Result.{err_from_is_err_and}
use Rattle.plc_scope.specs.Scope.{◌>>=◌}
use Rattle.plc_scope.proofs.Sequence.{bind_stops, fails_before}
use Rattle.plc_scope.proofs.Turns.{ahead, makes, makes_none, made}
use Rattle.plc_parse.specs.Meaning.{counted, count_of, allocates, before}
use Rattle.plc_parse.proofs.Loops.{forms_from, one_form, forms_go, one_form_more, one_form_long, added}
use Rattle.plc_parse.proofs.step.step_of.Goals as goal

pub returns-in_err-add : goal.returns-in_err-add
returns-in_err-add g c =
    let l = c.loop-form in
    let k = g.F.StepForm.kind in
    let means = k.means c.args.scope.now in
    let p = err_from_is_err_and c.from_residual.result c.from_residual.ensures.1 in
    let item = c.form-item.result in
    let one = counted (length l.step.primitives) l.step.has_new item.at (means (k.tree item.value)) in
    rw (p.1, p.2) (makes_none (forms_from means k.tree) (one_form means k.tree) before (λ ks o. ks ++ o)
    (forms_go means k.tree) (length l.step.primitives, l.step.has_new) c.args.forms.now l.form-index item _
    l.step.primitives _ _ c.form-item.is c.loop-form-test.true
    (bind_stops _ one _ (fails_before _ one _ (c.in_err-add.ensures _ c.meaning.ensures))) l.invariant)

pub loop-form-preserved : goal.loop-form-preserved
loop-form-preserved g c =
    let l = c.loop-form in
    let k = g.F.StepForm.kind in
    let means = k.means c.args.scope.now in
    let item = c.form-item.result in
    let new = c.add.new.self in
    let a = added l.step.primitives new.primitives l.step.has_new new.has_new item.at (means (k.tree item.value))
    (c.in_ok-add.ensures _ c.meaning.ensures) in
    let long = ap length a.primitives ∙ one_form_long l.step.primitives a.prim in
    ap (λ s. ahead (forms_from means k.tree) (one_form means k.tree) before (λ ks o. ks ++ o) (forms_go means k.tree)
    new.primitives (forms_from means k.tree s (drop (l.form-index + 1) c.args.forms.now)))
    (ap (λ (n : ℕ). (n, new.has_new)) long ∙ ap (λ (b : Bool). (length l.step.primitives + count_of a.prim, b)) a.new)
    ∙ makes (forms_from means k.tree) (one_form means k.tree) before (λ ks o. ks ++ o) (forms_go means k.tree)
    (length l.step.primitives, l.step.has_new) _ c.args.forms.now l.form-index item _ l.step.primitives new.primitives
    a.prim c.form-item.is c.loop-form-test.true
    (λ o. ap (λ ks. ks ++ o) a.primitives ∙ one_form_more l.step.primitives a.prim o)
    (ap (λ r. r >>= λ q. Ok (q, (length l.step.primitives + count_of q, l.step.has_new || allocates q))) a.is)
    ∙ l.invariant

pub returns : goal.returns
returns g c =
    let l = c.loop-form in
    let k = g.F.StepForm.kind in
    let means = k.means c.args.scope.now in
    made (forms_from means k.tree) (one_form means k.tree) before (λ ks o. ks ++ o) (forms_go means k.tree)
    (length l.step.primitives, l.step.has_new) c.args.forms.now l.form-index l.step.primitives _ c.loop-form-test.false
    l.invariant
    ∙ ap (λ ks. Ok ks) (append-nil l.step.primitives)
