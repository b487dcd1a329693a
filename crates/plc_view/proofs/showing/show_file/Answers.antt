use Rattle.std.proofs.Common.{inl, subst}
use Rattle.plc_cli.specs.Reads.{IsContentOf}
use Rattle.plc_cli.proofs.Answering.{if_found}
use Rattle.plc_page.specs.Pages.{ShowsCheck}
use Rattle.plc_view.specs.Showing.{page}
use Rattle.plc_view.proofs.showing.show_file.Goals as goal

pub returns-in-Read-clause-due : goal.returns-in-Read-clause-due
returns-in-Read-clause-due g c =
    if_found c.file_answer.result (g.F.Files.known c.args.files.now) (g.F.Files.known c.read.new.files) c.args.file.now
    (λ bytes status text. ShowsCheck c.args.file.now bytes (page status text)) c.in-Read.bytes.items c.deref.result.now
    (subst (IsContentOf _ _ _ _) c.in-Read.is c.in_ok-bytes.ensures.read) c.deref.ensures.value c.file_answer.ensures

pub returns-in-Unread-clause-due : goal.returns-in-Unread-clause-due
returns-in-Unread-clause-due g c = inl (subst (IsContentOf _ _ _ _) c.in-Unread.is c.in_ok-bytes.ensures.read)
