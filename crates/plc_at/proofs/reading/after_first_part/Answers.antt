use Rattle.std.proofs.Common.{sym, ◌∙◌, subst}
use Rattle.plc_lex.specs.declared.token.TokenKind.TheVariants.{Name}
use Rattle.plc_at.specs.declared.reading.Due.TheVariants as due
use Rattle.plc_at.specs.Reading.{IsStep, Advances}
use Rattle.plc_at.proofs.ReadingSteps.{location_due, closes, names, whole_read}
use Rattle.plc_at.proofs.reading.after_first_part.Goals as goal

pub returns-in_err-location : goal.returns-in_err-location
returns-in_err-location c = λ flow f.
    subst (λ r. IsStep flow c.args.observer.now (due.Location c.args.claim) (Name c.args.name.now) r)
    (sym c.from_residual.ensures)
    (λ ts g. elim (location_due flow c.args.observer.now c.args.claim (Name c.args.name.now) ts g.0 g.1) [
      | closes e ↦ absurd cc
      | names l h e ↦ c.in_err-location.ensures.none l (record { there = h; begins = cc })
    ])

pub returns : goal.returns
returns c = λ flow f.
    subst (λ d. Advances flow c.args.observer.now (due.Location c.args.claim) (Name c.args.name.now) (due.Location d))
    (sym c.with_location.ensures)
    (whole_read flow c.args.observer.now c.args.claim c.args.name.now c.in_ok-location.location f c.in_ok-location.ensures.some
    (sym c.has_second_part.ensures ∙ c.if-has_second_part.false))
