use Rattle.plc_check.specs.Verdicts.{IsVerdictOn}
use Rattle.plc_cli.specs.Samples.{sampled_text}
use Rattle.plc_cli.specs.Verdicts.{verdict_status}
use Rattle.plc_cli.proofs.Answering.{if_told}
use Rattle.plc_cli.proofs.sampling.ForSampleQuestion.answer.Goals as goal

pub returns : goal.returns
returns c =
    if_told c.sample_answer-answer.result (IsVerdictOn c.args.judged.now) verdict_status
    (sampled_text c.args.self.now.copies c.args.self.now.line c.args.judged.now)
    c.in_ok-verdict.verdict c.in_ok-verdict.ensures c.sample_answer-answer.ensures
