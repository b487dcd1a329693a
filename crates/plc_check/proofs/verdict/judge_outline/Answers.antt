use Rattle.std.proofs.Common.{subst, sym}
use Rattle.plc_check.specs.Counterexamples.{IsFirstCounterexample}
use Rattle.plc_check.specs.Verdicts.{IsVerdictOn}
use Rattle.plc_check.proofs.verdict.judge_outline.Goals as goal

pub returns-in-Some : goal.returns-in-Some
returns-in-Some c =
    let first = subst (IsFirstCounterexample c.args.judged.now.flow c.args.judged.now.unit_outline) c.in-Some.is c.in_ok-first_counterexample.ensures in
    subst (IsVerdictOn c.args.judged.now) (sym c.unproved_verdict.ensures) ((c.args.typing.env, c.requires.typing.typed), first.0, first.1.set_is, first.1.model)
