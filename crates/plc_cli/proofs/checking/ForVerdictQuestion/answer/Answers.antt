use Rattle.plc_check.specs.Verdicts.{IsVerdictOn}
use Rattle.plc_cli.specs.Verdicts.{verdict_status, verdict_text}
use Rattle.plc_cli.proofs.Answering.{if_told}
use Rattle.plc_cli.proofs.checking.ForVerdictQuestion.answer.Goals as goal

pub returns : goal.returns
returns c =
    if_told c.verdict_answer.result (IsVerdictOn c.args.judged.now) verdict_status (verdict_text c.args.judged.now)
    c.in_ok-verdict.verdict c.in_ok-verdict.ensures c.verdict_answer.ensures
