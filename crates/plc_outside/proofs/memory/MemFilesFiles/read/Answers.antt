use Rattle.std.proofs.Common.{◌≡◌, ◌∙◌, Some, sym, ap, arith}
use Rattle.std.specs.Prelude.{option_map}
use Rattle.std.proofs.lemmas.Result.{err_from_is_err_and}
use Rattle.plc_outside.specs.StoredFiles.{found}
use Rattle.plc_outside.proofs.ReadAnswers.{Answers-none, Answers-noted, Answers-memory}
use Rattle.plc_outside.proofs.memory.MemFilesFiles.read.Goals as goal

pub returns-in_err-from_slice-in-Some-clause-answer :
    goal.returns-in_err-from_slice-in-Some-clause-answer
returns-in_err-from_slice-in-Some-clause-answer c =
    let here = rw (c.deref.ensures.value, c.deref-2.ensures.value, c.saturating_add-self-inside.ensures) at c.found.ensures in
    let seen : found c.args.self.now c.args.name.now ≡ option_map (λ v. v.now.items) c.found.result = rw (← c.self.view_is) (sym here) in
    let p = err_from_is_err_and c.from_residual.result c.from_residual.ensures.1 in
    rw (p.1, p.2) (Answers-memory _ c.in-Some.bytes.now.items _ (seen ∙ ap (option_map (λ v. v.now.items)) c.in-Some.is) (omega arith))

pub returns-in-None-clause-others : goal.returns-in-None-clause-others
returns-in-None-clause-others c = λ other h. rw (← c.self.view_is) (c.note.ensures.others other h)

pub returns-in-None-clause-answer : goal.returns-in-None-clause-answer
returns-in-None-clause-answer c =
    let here = rw (c.deref.ensures.value, c.deref-2.ensures.value, c.saturating_add-self-inside.ensures) at c.found.ensures in
    let seen : found c.args.self.now c.args.name.now ≡ option_map (λ v. v.now.items) c.found.result = rw (← c.self.view_is) (sym here) in
    Answers-none _ _ _ (seen ∙ ap (option_map (λ v. v.now.items)) c.in-None.is) c.note.ensures.fault

pub returns-in_ok-from_slice-in-Some-clause-answer :
    goal.returns-in_ok-from_slice-in-Some-clause-answer
returns-in_ok-from_slice-in-Some-clause-answer c =
    let here = rw (c.deref.ensures.value, c.deref-2.ensures.value, c.saturating_add-self-inside.ensures) at c.found.ensures in
    let seen : found c.args.self.now c.args.name.now ≡ option_map (λ v. v.now.items) c.found.result = rw (← c.self.view_is) (sym here) in
    let copied = c.in_ok-from_slice-in-Some.ensures.items ∙ c.deref-in-Some.ensures.value in
    Answers-noted _ _ _ c.note-in-Some.result (seen ∙ ap (option_map (λ v. v.now.items)) c.in-Some.is ∙ ap Some (sym copied)) (rw copied (omega arith)) c.note-in-Some.ensures.ok c.note-in-Some.ensures.err
