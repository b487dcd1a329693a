use Rattle.std.proofs.Common.{inl, subst}
use Rattle.plc_cli.specs.Reads.{IsContentOf}
use Rattle.plc_cli.proofs.Answering.{if_ok_from}
use Rattle.plc_hunting.specs.Program.{IsHunt}
use Rattle.plc_hunting.specs.Views.{freeing_view}
use Rattle.plc_hunting.proofs.Outcomes.{due_where_found}
use Rattle.plc_hunting.proofs.asking.hunt_file.Goals as goal

pub returns-in-Read-clause-due : goal.returns-in-Read-clause-due
returns-in-Read-clause-due g c =
    if_ok_from c.hunt_bytes.result _ _
    (λ h answer. due_where_found _ _ c.args.request.file.now
    (λ bytes. IsHunt (freeing_view c.args.request.freeing) bytes h.status h.text.items)
    c.in-Read.bytes.items c.deref.result.now h.status h.text.items
    (subst (IsContentOf _ _ _ _) c.in-Read.is c.in_ok-bytes.ensures.read) c.deref.ensures.value answer)
    c.hunt_bytes.ensures
