use Rattle.std.proofs.Common.{inl, inr, ap, sym}
use Rattle.plc_cli.specs.Verdicts.{verdict_status}
use Rattle.plc_cli.proofs.checking.verdict_status.Goals as goal

pub returns-in-Untyped : goal.returns-in-Untyped
returns-in-Untyped c = elim c.in-Untyped.is [ inl w ↦ ap verdict_status (sym w.3) | inr w ↦ ap verdict_status (sym w.3) ]
