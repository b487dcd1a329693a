use Rattle.std.proofs.Common.{◌≡◌, sym, subst}
use Rattle.plc_lang.specs.Names.{label_name}
use Rattle.plc_at.specs.declared.reading.Due.TheVariants as due
use Rattle.plc_at.specs.Reading.{AreNamed, IsStep, Advances}
use Rattle.plc_at.proofs.ReadingSteps.{local_due, local_read}
use Rattle.plc_at.proofs.reading.after_label.Goals as goal

pub returns-in_err-name : goal.returns-in_err-name
returns-in_err-name c = λ o.
    subst (λ r. IsStep c.args.flow.now o (due.Local c.args.label) c.args.kind.now r) (sym c.from_residual.ensures)
    (λ ts g.
    let d = local_due c.args.flow.now o (label_name c.args.flow.now.file c.args.label) c.args.kind.now ts g.0 g.1 in
    c.in_err-name.ensures.none d.name d.token)

pub returns-in_err-label : goal.returns-in_err-label
returns-in_err-label c = λ o.
    subst (λ r. IsStep c.args.flow.now o (due.Local c.args.label) c.args.kind.now r)
    (sym c.from_residual-in_err-label.ensures)
    (λ ts g.
    let d = local_due c.args.flow.now o (label_name c.args.flow.now.file c.args.label) c.args.kind.now ts g.0 g.1 in
    let token = c.in_ok-name.ensures.some in
    let said = d.token in
    let same : d.name ≡ c.in_ok-name.name.now = cc in
    c.in_err-label.ensures.none d.label d.local
    (subst (λ x. AreNamed c.args.flow.now x c.in_ok-name.name.now d.label d.local) (sym c.label_name.ensures)
    (subst (λ x. AreNamed c.args.flow.now (label_name c.args.flow.now.file c.args.label) x d.label d.local) same
    d.are_named)))

pub returns : goal.returns
returns c = λ o.
    let f = c.args.flow.now in
    let l = c.args.label in
    let found = subst (λ x. AreNamed f x c.in_ok-name.name.now c.in_ok-label.label c.in_ok-label.local)
    c.label_name.ensures c.in_ok-label.ensures.some in
    subst (λ s. Advances f o (due.Local l) c.args.kind.now
    (due.Opening (record { label = c.in_ok-label.label; local = c.in_ok-label.local; set = s })))
    (sym c.empty-set.ensures)
    (subst (λ k. Advances f o (due.Local l) k
    (due.Opening (record { label = c.in_ok-label.label; local = c.in_ok-label.local; set = 0 })))
    (sym c.in_ok-name.ensures.some)
    (local_read f o l c.in_ok-name.name.now c.in_ok-label.label c.in_ok-label.local found))
