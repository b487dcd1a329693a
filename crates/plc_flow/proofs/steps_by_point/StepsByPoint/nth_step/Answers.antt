use Rattle.std.proofs.Common.{◌≡◌, None, Some, length, slice_get, refl, ap, sym, ◌∙◌}
use Rattle.std.specs.Prelude.{option_and_then}
use Rattle.std.specs.Option.{option_copied}
use Rattle.std.proofs.lemmas.Option.{slice_get_past, slice_get_read}
use Rattle.plc_flow.proofs.Indexed.{step_found}
use Rattle.plc_flow.proofs.steps_by_point.StepsByPoint.nth_step.Goals as goal

pub returns-in_err-k : goal.returns-in_err-k
returns-in_err-k c =
    let row = c.leaving.result.now in
    let none : slice_get row c.args.nth ≡ None = slice_get_past row c.args.nth c.in_err-k.ensures.lookup.3 in
    ap option_copied c.from_residual.ensures
    ∙ ap (λ o. option_and_then (slice_get c.args.flow.now.steps) o) (sym none)
    ∙ step_found c.args.flow.now c.args.self.now c.args.at c.args.nth row c.requires c.leaving.ensures

pub returns : goal.returns
returns c =
    let row = c.leaving.result.now in
    let k = c.in_ok-k.k.now in
    let there : slice_get row c.args.nth ≡ Some k = slice_get_read row (length row) c.args.nth k refl c.in_ok-k.ensures.lookup.3.0 c.in_ok-k.ensures.lookup.1 in
    c.get-2.ensures
    ∙ ap (λ o. option_and_then (slice_get c.args.flow.now.steps) o) (sym there)
    ∙ step_found c.args.flow.now c.args.self.now c.args.at c.args.nth row c.requires c.leaving.ensures
