use Rattle.std.proofs.Common.{◌<◌, Some, Option, length, get_or, map, option_map, sym, ap, ◌∙◌, subst, refl}
use Rattle.std.proofs.lemmas.Option.{slice_get-get_or, slice_get-map}
use Rattle.plc_view.specs.Showing.{IsDueFor}
use Rattle.plc_view.specs.Requests.{Request}
use Rattle.plc_view.specs.Views.{request_view}
use Rattle.plc_cli.proofs.Answering.{if_ok_from}
use Rattle.plc_view.proofs.showing.answer_to.Goals as goal

pub returns-in-Some-Run-clause-due : goal.returns-in-Some-Run-clause-due
returns-in-Some-Run-clause-due g c =
    let x = get_or c.args.reclaimers.now c.in-Some-Run.reclaimer c.index-reclaimers-reclaimer.result in
    let within : c.in-Some-Run.reclaimer < length c.args.reclaimers.now = rw c.in-Some-Run.field-0-is at c.in-Some-Run.ensures.in_range in
    let here = slice_get-get_or c.args.reclaimers.now c.in-Some-Run.reclaimer c.index-reclaimers-reclaimer.result within in
    let there = slice_get-map (λ b. (goal.Reclaimer-dyn g (b.vtable, b.value)).meanings b.value) c.args.reclaimers.now c.in-Some-Run.reclaimer ∙ ap (option_map (λ b. (goal.Reclaimer-dyn g (b.vtable, b.value)).meanings b.value)) here in
    let asked = ap (λ r. Some (request_view r)) (sym c.in-Some-Run.field-0-is) ∙ c.in-Some-Run.ensures.asks in
    if_ok_from c.show_run.result _ _
    (λ answer due. subst
    (λ (r : Option Request). IsDueFor (map (λ b. (goal.Reclaimer-dyn g (b.vtable, b.value)).meanings b.value) c.args.reclaimers.now) r (g.F.Files.known c.args.files.now) (g.F.Files.known c.show_run.new.files) answer.status answer.text.items)
    asked
    (record { reclaimer = (goal.Reclaimer-dyn g (x.vtable, x.value)).meanings x.value; there = there; due = due }))
    c.show_run.ensures.due

pub returns-in-None-clause-untouched : goal.returns-in-None-clause-untouched
returns-in-None-clause-untouched g c = λ e. refl

pub returns-in-None-clause-due : goal.returns-in-None-clause-due
returns-in-None-clause-due g c =
    if_ok_from c.words_refusal.result _ _
    (λ answer told. subst
    (λ (r : Option Request). IsDueFor (map (λ b. (goal.Reclaimer-dyn g (b.vtable, b.value)).meanings b.value) c.args.reclaimers.now) r (g.F.Files.known c.args.files.now) (g.F.Files.known c.args.files.now) answer.status answer.text.items)
    c.in-None.ensures.asks
    (record { untouched = refl; status_is = told.0; text_is = told.1 }))
    c.words_refusal.ensures
