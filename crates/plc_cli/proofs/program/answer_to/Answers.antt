use Rattle.std.proofs.Common.{◌<◌, Some, Option, length, get_or, map, option_map, sym, ap, ◌∙◌, subst, refl}
use Rattle.std.proofs.lemmas.Option.{slice_get-get_or, slice_get-map}
use Rattle.plc_cli.specs.Answer.{IsDueFor}
use Rattle.plc_cli.specs.Requests.{Request, asks_for_files}
use Rattle.plc_cli.specs.Views.{request_view}
use Rattle.plc_cli.proofs.Answering.{if_ok_from}
use Rattle.plc_cli.proofs.program.answer_to.Goals as goal

pub returns-in-Some-Replay-clause-due : goal.returns-in-Some-Replay-clause-due
returns-in-Some-Replay-clause-due g c =
    let x = get_or c.args.reclaimers.now c.in-Some-Replay.reclaimer c.index-reclaimers-reclaimer.result in
    let within : c.in-Some-Replay.reclaimer < length c.args.reclaimers.now = rw c.in-Some-Replay.field-0-is at c.in-Some-Replay.ensures.in_range in
    let here = slice_get-get_or c.args.reclaimers.now c.in-Some-Replay.reclaimer c.index-reclaimers-reclaimer.result within in
    let there = slice_get-map (λ b. (goal.Reclaimer-dyn g (b.vtable, b.value)).meanings b.value) c.args.reclaimers.now c.in-Some-Replay.reclaimer ∙ ap (option_map (λ b. (goal.Reclaimer-dyn g (b.vtable, b.value)).meanings b.value)) here in
    let asked = ap (λ r. Some (request_view r)) (sym c.in-Some-Replay.field-0-is) ∙ c.in-Some-Replay.ensures.asks in
    if_ok_from c.replay_file.result _ _
    (λ answer due. subst
    (λ (r : Option Request). IsDueFor (map (λ b. (goal.Reclaimer-dyn g (b.vtable, b.value)).meanings b.value) c.args.reclaimers.now) r (g.F.Files.known c.args.files.now) (g.F.Files.known c.replay_file.new.files) answer.status answer.text.items)
    asked
    (record { reclaimer = (goal.Reclaimer-dyn g (x.vtable, x.value)).meanings x.value; there = there; due = due }))
    c.replay_file.ensures.due

pub returns-in-None-clause-untouched : goal.returns-in-None-clause-untouched
returns-in-None-clause-untouched g c = λ e. refl

pub returns-in-None-clause-due : goal.returns-in-None-clause-due
returns-in-None-clause-due g c =
    if_ok_from c.words_refusal.result _ _
    (λ answer told. subst
    (λ (r : Option Request). IsDueFor (map (λ b. (goal.Reclaimer-dyn g (b.vtable, b.value)).meanings b.value) c.args.reclaimers.now) r (g.F.Files.known c.args.files.now) (g.F.Files.known c.args.files.now) answer.status answer.text.items)
    c.in-None.ensures.asks
    (record { untouched = returns-in-None-clause-untouched g c (ap asks_for_files (sym c.in-None.ensures.asks)); status_is = told.0; text_is = told.1 }))
    c.words_refusal.ensures
