use Rattle.std.proofs.Common.{true, ap, sym, ◌∙◌, ◌||◌}
use Rattle.std.specs.List.{list_any}
use Rattle.plc_oblig.specs.Outlines.{is_large}
use Rattle.plc_oblig.specs.Runs.{left_at}
use Rattle.plc_oblig.proofs.Joined.{all_left}
use Rattle.plc_oblig.proofs.LargeSets.{decided}
use Rattle.plc_oblig.proofs.excess.has_large_set.Goals as goal

pub obligations-init : goal.obligations-init
obligations-init c =
    rw c.at-at.ensures (ap (list_any (is_large c.args.program.now.flow.now c.args.program.now.outline.now)) (sym (all_left c.args.program.now.flow.now c.args.program.now.outline.now)))

pub obligations-preserved : goal.obligations-preserved
obligations-preserved c =
    let large = is_large c.args.program.now.flow.now c.args.program.now.outline.now in
    let rest = left_at c.args.program.now.flow.now c.args.program.now.outline.now c.in-Some.after in
    sym (ap (list_any large) c.in-Some.ensures ∙ ap (λ b. b || list_any large rest) (sym c.is_large.ensures ∙ c.if-is_large.false))
    ∙ c.obligations.invariant

pub returns-then-is_large : goal.returns-then-is_large
returns-then-is_large c =
    let large = is_large c.args.program.now.flow.now c.args.program.now.outline.now in
    let rest = left_at c.args.program.now.flow.now c.args.program.now.outline.now c.in-Some.after in
    decided c.args.program.now.flow.now c.args.program.now.outline.now true
    (sym (sym c.obligations.invariant ∙ ap (list_any large) c.in-Some.ensures ∙ ap (λ b. b || list_any large rest) (sym c.is_large.ensures ∙ c.if-is_large.true)))

pub returns : goal.returns
returns c =
    let large = is_large c.args.program.now.flow.now c.args.program.now.outline.now in
    decided c.args.program.now.flow.now c.args.program.now.outline.now _
    (sym (ap (list_any large) c.in_default.ensures) ∙ c.obligations.invariant)
