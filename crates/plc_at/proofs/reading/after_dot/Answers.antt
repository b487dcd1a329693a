use Rattle.std.proofs.Common.{◌≡◌, sym, subst}
use Rattle.plc_at.specs.declared.reading.Due.TheVariants as due
use Rattle.plc_at.specs.Claims.{before_dot}
use Rattle.plc_at.specs.Reading.{location_name, HasParts, with_location, IsStep, Advances}
use Rattle.plc_at.proofs.ReadingSteps.{part_due, second_read}
use Rattle.plc_at.proofs.reading.after_dot.Goals as goal

pub returns-in_err-name : goal.returns-in_err-name
returns-in_err-name c = λ flow f.
    subst (λ r. IsStep flow c.args.observer.now (due.Part c.args.claim c.args.location) c.args.kind.now r)
    (sym c.from_residual.ensures)
    (λ ts g.
    let d = part_due flow c.args.observer.now c.args.claim (before_dot (location_name c.args.observer.now c.args.location))
    c.args.kind.now ts g.0 g.1 in
    c.in_err-name.ensures.none d.name d.token)

pub returns-in_err-found : goal.returns-in_err-found
returns-in_err-found c = λ flow f.
    let o = c.args.observer.now in
    subst (λ r. IsStep flow o (due.Part c.args.claim c.args.location) c.args.kind.now r)
    (sym c.from_residual-in_err-found.ensures)
    (λ ts g.
    let d = part_due flow o c.args.claim (before_dot (location_name o c.args.location)) c.args.kind.now ts g.0 g.1 in
    let token = c.in_ok-name.ensures.some in
    let said = d.token in
    let same : d.name ≡ c.in_ok-name.name.now = cc in
    c.in_err-found.ensures.none d.location
    (subst (λ x. HasParts o x c.in_ok-name.name.now d.location) (sym c.first_part.ensures)
    (subst (λ x. HasParts o (before_dot (location_name o c.args.location)) x d.location) same d.parts)))

pub returns : goal.returns
returns c = λ flow f.
    let o = c.args.observer.now in
    let found = subst (λ x. HasParts o x c.in_ok-name.name.now c.in_ok-found.found) c.first_part.ensures
    c.in_ok-found.ensures.some in
    subst (λ d. Advances flow o (due.Part c.args.claim c.args.location) c.args.kind.now (due.Location d))
    (sym c.with_location.ensures)
    (subst (λ k. Advances flow o (due.Part c.args.claim c.args.location) k
    (due.Location (with_location c.args.claim c.in_ok-found.found))) (sym c.in_ok-name.ensures.some)
    (second_read flow o c.args.claim c.args.location c.in_ok-name.name.now c.in_ok-found.found f found))
