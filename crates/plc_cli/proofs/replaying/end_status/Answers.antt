use Rattle.std.proofs.Common.{inl, inr, ap, sym}
use Rattle.plc_cli.specs.Statuses.{end_status}
use Rattle.plc_cli.proofs.replaying.end_status.Goals as goal

pub returns-in-Race : goal.returns-in-Race
returns-in-Race c = elim c.in-Race.is [
  | inl w ↦ ap end_status (sym w.3)
  | inr v ↦ elim v [ inl w ↦ ap end_status (sym w.1) | inr w ↦ ap end_status (sym w.2) ]
]
