use Rattle.std.proofs.Common.{subst, sym, ◌∙◌}
use Rattle.plc_oblig.proofs.Opposites.{untouched_is_kept}
use Rattle.plc_check.specs.Counterexamples.{IsCounterexampleAt}
use Rattle.plc_check.proofs.Noting.{kept_noted}
use Rattle.plc_check.proofs.counterexample.counterexample_at.Goals as goal

pub returns-in_ok-note-in-None-clause-kept : goal.returns-in_ok-note-in-None-clause-kept
returns-in_ok-note-in-None-clause-kept c =
    let kept = subst (IsCounterexampleAt c.args.program.now.flow.now c.args.program.now.outline.now c.args.obligation) c.in-None.is c.in_ok-found.ensures.found in
    kept_noted c.args.program.now.flow.now c.args.program.now.outline.now c.args.kept.now c.note-in-None.new.self c.args.obligation 0 c.requires.kept kept c.in_ok-note-in-None.ensures

pub returns-then-untouched-clause-found : goal.returns-then-untouched-clause-found
returns-then-untouched-clause-found c =
    untouched_is_kept c.args.program.now.flow.now c.args.program.now.outline.now c.args.obligation c.requires.fits c.requires.there
    (sym c.untouched.ensures ∙ c.if-untouched.true)

pub returns-then-untouched-clause-kept : goal.returns-then-untouched-clause-kept
returns-then-untouched-clause-kept c =
    kept_noted c.args.program.now.flow.now c.args.program.now.outline.now c.args.kept.now c.note.new.self c.args.obligation 0 c.requires.kept
    (untouched_is_kept c.args.program.now.flow.now c.args.program.now.outline.now c.args.obligation c.requires.fits c.requires.there
    (sym c.untouched.ensures ∙ c.if-untouched.true))
    c.in_ok-note.ensures
