use Rattle.std.proofs.Common.{sym, subst}
use Rattle.plc_at.specs.Reading.{DueFits, IsStep}
use Rattle.plc_at.proofs.reading.step.Goals as goal

pub returns-in-Claim : goal.returns-in-Claim
returns-in-Claim c =
    subst (λ d. IsStep c.args.flow.now c.args.observer.now d c.args.kind.now c.after_claims.result) (sym c.in-Claim.is)
    (c.after_claims.ensures c.args.observer.now c.in-Claim.field-0)

pub returns-in-Label : goal.returns-in-Label
returns-in-Label c =
    subst (λ d. IsStep c.args.flow.now c.args.observer.now d c.args.kind.now c.after_at.result) (sym c.in-Label.is)
    (c.after_at.ensures c.args.observer.now)

pub returns-in-Local : goal.returns-in-Local
returns-in-Local c =
    subst (λ d. IsStep c.args.flow.now c.args.observer.now d c.args.kind.now c.after_label.result) (sym c.in-Local.is)
    (c.after_label.ensures c.args.observer.now)

pub returns-in-Opening : goal.returns-in-Opening
returns-in-Opening c =
    subst (λ d. IsStep c.args.flow.now c.args.observer.now d c.args.kind.now c.after_local.result) (sym c.in-Opening.is)
    (c.after_local.ensures c.args.flow.now c.args.observer.now
    (subst (λ d. DueFits c.args.flow.now c.args.observer.now d) c.in-Opening.is c.requires.due))

pub returns-in-Location : goal.returns-in-Location
returns-in-Location c =
    subst (λ d. IsStep c.args.flow.now c.args.observer.now d c.args.kind.now c.within_braces.result)
    (sym c.in-Location.is)
    (c.within_braces.ensures c.args.flow.now
    (subst (λ d. DueFits c.args.flow.now c.args.observer.now d) c.in-Location.is c.requires.due))

pub returns-in-Dot : goal.returns-in-Dot
returns-in-Dot c =
    subst (λ d. IsStep c.args.flow.now c.args.observer.now d c.args.kind.now c.before_dot.result) (sym c.in-Dot.is)
    (c.before_dot.ensures c.args.flow.now c.args.observer.now
    (subst (λ d. DueFits c.args.flow.now c.args.observer.now d) c.in-Dot.is c.requires.due).0
    (subst (λ d. DueFits c.args.flow.now c.args.observer.now d) c.in-Dot.is c.requires.due).1)

pub returns-in-Part : goal.returns-in-Part
returns-in-Part c =
    subst (λ d. IsStep c.args.flow.now c.args.observer.now d c.args.kind.now c.after_dot.result) (sym c.in-Part.is)
    (c.after_dot.ensures c.args.flow.now
    (subst (λ d. DueFits c.args.flow.now c.args.observer.now d) c.in-Part.is c.requires.due).0)
