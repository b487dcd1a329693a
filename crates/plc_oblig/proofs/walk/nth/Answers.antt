use Rattle.std.proofs.Common.{slice_get, sym, ap, ◌∙◌}
use Rattle.plc_oblig.specs.Runs.{from_group}
use Rattle.plc_oblig.proofs.Joined.{all_left, first_left, nothing_left}
use Rattle.plc_oblig.proofs.walk.nth.Goals as goal

pub returns-in-None : goal.returns-in-None
returns-in-None c =
    nothing_left (from_group c.args.flow.now c.args.outline.now 0 0) c.args.i (rw c.at.ensures at c.in-None.ensures)
    ∙ ap (λ xs. slice_get xs c.args.i) (sym (all_left c.args.flow.now c.args.outline.now))

pub returns-in-Some : goal.returns-in-Some
returns-in-Some c =
    first_left (from_group c.args.flow.now c.args.outline.now 0 0) _ c.args.i c.in-Some.found.0 (rw c.at.ensures at c.in-Some.ensures)
    ∙ ap (λ xs. slice_get xs c.args.i) (sym (all_left c.args.flow.now c.args.outline.now))
