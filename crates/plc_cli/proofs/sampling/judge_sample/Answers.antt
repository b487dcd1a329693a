use Rattle.std.proofs.Common.{List, ℕ, ◌∙◌, subst}
use Rattle.std.specs.Prelude.{IfOk}
use Rattle.plc_cli.specs.Samples.{IsSampledFile}
use Rattle.plc_cli.proofs.sampling.judge_sample.Goals as goal

pub returns : goal.returns
returns c =
    subst (λ (bytes : List ℕ). IfOk c.answer_bytes.result (λ answer. IsSampledFile c.args.copies c.args.line bytes answer.status answer.text.items))
    (c.deref.ensures.value ∙ c.in_ok-bytes.ensures.is) c.answer_bytes.ensures
