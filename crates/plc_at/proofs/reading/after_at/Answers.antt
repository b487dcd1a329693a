use Rattle.std.proofs.Common.{◌≡◌, sym, subst}
use Rattle.plc_at.specs.declared.reading.Due.TheVariants as due
use Rattle.plc_at.specs.Reading.{IsLabelNamed, IsStep}
use Rattle.plc_at.proofs.ReadingSteps.{label_due}
use Rattle.plc_at.proofs.reading.after_at.Goals as goal

pub returns-in_err-name : goal.returns-in_err-name
returns-in_err-name c = λ o. subst (λ r. IsStep c.args.flow.now o due.Label c.args.kind.now r)
    (sym c.from_residual.ensures)
    (λ ts g.
    let d = label_due c.args.flow.now o c.args.kind.now ts g.0 g.1 in
    c.in_err-name.ensures.none d.name d.token)

pub returns-in_err-label : goal.returns-in_err-label
returns-in_err-label c = λ o. subst (λ r. IsStep c.args.flow.now o due.Label c.args.kind.now r)
    (sym c.from_residual-in_err-label.ensures)
    (λ ts g.
    let d = label_due c.args.flow.now o c.args.kind.now ts g.0 g.1 in
    let token = c.in_ok-name.ensures.some in
    let said = d.token in
    let same : d.name ≡ c.in_ok-name.name.now = cc in
    c.in_err-label.ensures.none d.label (subst (λ x. IsLabelNamed c.args.flow.now x d.label) same d.is_named))
