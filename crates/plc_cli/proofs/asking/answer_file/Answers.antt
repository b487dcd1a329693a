use Rattle.std.proofs.Common.{inl, subst}
use Rattle.plc_check.specs.Answered.{judged_of}
use Rattle.plc_cli.specs.Files.{IsAnsweredFile}
use Rattle.plc_cli.specs.Reads.{IsContentOf}
use Rattle.plc_cli.proofs.Answering.{if_found}
use Rattle.plc_cli.proofs.asking.answer_file.Goals as goal

pub returns-in-Read-clause-due : goal.returns-in-Read-clause-due
returns-in-Read-clause-due g c =
    if_found c.answer_bytes.result (g.F.Files.known c.args.files.now) (g.F.Files.known c.read.new.files) c.args.file.now
    (IsAnsweredFile (λ u. g.Q.Question.due c.args.question (judged_of u))) c.in-Read.bytes.items c.deref.result.now
    (subst (IsContentOf _ _ _ _) c.in-Read.is c.in_ok-bytes.ensures.read) c.deref.ensures.value c.answer_bytes.ensures

pub returns-clause-due : goal.returns-clause-due
returns-clause-due g c = inl (subst (IsContentOf _ _ _ _) c.in-Unread.is c.in_ok-bytes.ensures.read)
