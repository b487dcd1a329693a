use Rattle.std.proofs.Common.{◌≡◌, ◌==◌, true, count_by, take, slice_get, refl, ap, ◌∙◌, eq-eqb}
use Rattle.plc_flow.specs.declared.flow.Step.{Step}
use Rattle.plc_flow.specs.Points.{leaves, steps_from}
use Rattle.plc_sentences.proofs.Leaving.{behind, one}
use Rattle.plc_sentences.proofs.steps.nth_of.Goals as goal

pub returns-in-Some : goal.returns-in-Some
returns-in-Some c = λ s found.
    let steps = c.args.flow.now.steps in
    let same = one c.in-Some.taken.now s (slice_get steps c.args.step.0) c.in-Some.ensures found in
    let all : c.count_leaving.result ≡ count_by (leaves s.from.0) (take c.args.step.0 steps) =
    c.count_leaving.ensures.count ∙ ap (λ (t : Step). count_by (leaves t.from.0) c.first_steps.result.now) same
    ∙ ap (count_by (leaves s.from.0)) c.first_steps.ensures.first in
    let own : (s.from.0 == s.from.0) ≡ true = eq-eqb s.from.0 s.from.0 refl in
    ap (slice_get (steps_from c.args.flow.now s.from.0)) all
    ∙ behind (leaves s.from.0) steps c.args.step.0 s found own
