-- What `sample` answers: what `check` does to a text that is made, with one line where it is safe.
use Rattle.std.specs.Prelude.{ℕ, List}
use Rattle.plc_check.specs.declared.judged.Judged.{Judged}
use Rattle.plc_check.specs.declared.verdict.Verdict.{Verdict}
use Rattle.plc_check.specs.declared.verdict.Verdict.TheVariants.{Safe, Untyped, Unproved}
use Rattle.plc_check.specs.Answered.{judged_of}
use Rattle.plc_check.specs.Verdicts.{IsVerdictOn}
use Rattle.plc_sample.specs.Sample.{sample_text}
use Rattle.plc_answers.specs.Samples.{summary_text}
use Rattle.plc_cli.specs.Files.{IsAnsweredFile, IsTold}
use Rattle.plc_cli.specs.Verdicts.{verdict_status, verdict_text}

-- the summary where the sample is safe, else the text of the verdict
abbrev pub sampled_text : ℕ → ℕ → Judged → Verdict → List ℕ
sampled_text k n j (Safe typing count) = summary_text k n j.flow count
sampled_text k n j (Untyped step prim fault) = verdict_text j (Untyped step prim fault)
sampled_text k n j (Unproved obligation set model) = verdict_text j (Unproved obligation set model)

-- any verdict that is right
abbrev pub IsSampledAs : ℕ → ℕ → Judged → ℕ → List ℕ → Type 0
IsSampledAs k n j = IsTold (IsVerdictOn j) verdict_status (sampled_text k n j)

-- what is answered to the text of a sample: refused, or safe, untyped or unproved
abbrev pub IsSampledFile : ℕ → ℕ → List ℕ → ℕ → List ℕ → Type 0
IsSampledFile k n bytes status text = IsAnsweredFile (λ u. IsSampledAs k n (judged_of u)) bytes status text

-- what `sample` answers to its numbers
abbrev pub IsSampleAnswer : ℕ → ℕ → ℕ → List ℕ → Type 0
IsSampleAnswer k n status text = IsSampledFile k n (sample_text k n) status text
