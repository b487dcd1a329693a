use Rattle.std.proofs.Common.{sym, ◌∙◌}
use Rattle.std.proofs.lemmas.Bool.{false≢true}
use Rattle.plc_oblig.proofs.Opposites.{still_is_kept}
use Rattle.plc_check.proofs.Noting.{alike_is_kept}
use Rattle.plc_check.proofs.counterexample.is_known_kept.Goals as goal

pub returns-then-still : goal.returns-then-still
returns-then-still c h =
    still_is_kept c.args.program.now.flow.now c.args.program.now.outline.now c.args.o.now c.requires.fits c.requires.there
    (sym c.still.ensures ∙ c.if-still.true)

pub returns-in-Some : goal.returns-in-Some
returns-in-Some c h =
    alike_is_kept c.args.program.now.flow.now c.args.program.now.outline.now c.args.kept.now c.args.o.now c.in-Some.field-0 c.in-Some.ensures c.requires.kept

pub returns-in-None : goal.returns-in-None
returns-in-None c h = absurd (false≢true h)
