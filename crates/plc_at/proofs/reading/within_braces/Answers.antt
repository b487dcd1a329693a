use Rattle.std.proofs.Common.{Some, sym, subst}
use Rattle.plc_at.specs.declared.reading.Due.TheVariants as due
use Rattle.plc_at.specs.Claims.{before_dot}
use Rattle.plc_at.specs.Reading.{location_name, IsStep, Advances}
use Rattle.plc_at.proofs.ReadingSteps.{close_read, location_due, closes, names}
use Rattle.plc_at.proofs.reading.within_braces.Goals as goal

pub returns-then-is_symbol : goal.returns-then-is_symbol
returns-then-is_symbol c = λ flow f.
    subst (λ k. Advances flow c.args.observer.now (due.Location c.args.claim) k (due.Claim (Some c.args.claim)))
    (sym (c.is_symbol.ensures.0 c.if-is_symbol.true)) (close_read flow c.args.observer.now c.args.claim)

pub returns-in_err-name : goal.returns-in_err-name
returns-in_err-name c = λ flow f.
    subst (λ r. IsStep flow c.args.observer.now (due.Location c.args.claim) c.args.kind.now r)
    (sym c.from_residual.ensures)
    (λ ts g. elim (location_due flow c.args.observer.now c.args.claim c.args.kind.now ts g.0 g.1) [
      | closes e ↦
          let yes = c.is_symbol.ensures.1 e in
          let none = c.if-is_symbol.false in
          absurd cc
      | names l h e ↦ c.in_err-name.ensures.none (before_dot (location_name c.args.observer.now l)) e
    ])
