use Rattle.std.proofs.Common.{Option, map, subst, refl}
use Rattle.std.specs.Prelude.{string_bytes}
use Rattle.plc_cli.proofs.Answering.{if_ok_from}
use Rattle.plc_hunting.specs.Program.{IsDueFor}
use Rattle.plc_hunting.specs.Requests.{Request}
use Rattle.plc_hunting.proofs.asking.answer_to.Goals as goal

pub returns-in-None-clause-due : goal.returns-in-None-clause-due
returns-in-None-clause-due g c =
    if_ok_from c.wrong_words.result _ _
    (λ h told. subst
    (λ (r : Option Request). IsDueFor r (g.F.Files.known c.args.files.now) (g.F.Files.known c.args.files.now) h.status h.text.items)
    c.in-None.ensures
    (record { untouched = refl; status_is = told.0; text_is = told.1 }))
    c.wrong_words.ensures
