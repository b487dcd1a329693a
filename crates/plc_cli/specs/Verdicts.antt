-- The status and the text of a verdict.
use Rattle.std.specs.Prelude.{ℕ, List}
use Rattle.plc_check.specs.declared.judged.Judged.{Judged}
use Rattle.plc_check.specs.declared.verdict.Verdict.{Verdict}
use Rattle.plc_check.specs.declared.verdict.Verdict.TheVariants.{Safe, Untyped, Unproved}
use Rattle.plc_answers.specs.Typings.{safe_text}
use Rattle.plc_answers.specs.Untyped.{untyped_text}
use Rattle.plc_answers.specs.Unproved.{unproved_text}
use Rattle.plc_cli.specs.Statuses.{holds, fails}

-- only a file that is safe holds
abbrev pub verdict_status : Verdict → ℕ
verdict_status (Safe typing count) = holds
verdict_status (Untyped step prim fault) = fails
verdict_status (Unproved obligation set model) = fails

-- each verdict as it is printed
abbrev pub verdict_text : Judged → Verdict → List ℕ
verdict_text j (Safe typing count) = safe_text j.flow j.observer typing.env count
verdict_text j (Untyped step prim fault) = untyped_text j.flow step.0 prim fault
verdict_text j (Unproved obligation set model) = unproved_text j.flow obligation set model.class
