use Rattle.std.proofs.Common.{◌≤◌, ◌++◌, ◌∙◌, length, ap, sym, List, ℕ}
use Rattle.std.proofs.lemmas.List.{append-nil}
use Rattle.std.proofs.lemmas.Bool.{ltb-false}
use Rattle.plc_answers.proofs.Lines.{no_lines}
use Rattle.plc_answers.proofs.typings.push_labels.Goals as goal

pub returns-in_default : goal.returns-in_default
returns-in_default c =
    let labels = c.as_slice-labels.result.now in
    let points = c.as_slice-points.result.now in
    let past : length points ≤ c.loop-i.i = ltb-false c.loop-i.i (length points) (sym c.in_default.ensures.lookup.0) in
    rw (← c.as_slice-labels.ensures, ← c.as_slice-points.ensures) (sym (append-nil c.loop-i.out.items)
    ∙ ap (λ (x : List ℕ). c.loop-i.out.items ++ x) (sym (no_lines c.args.flow.now c.args.observer.now c.args.envs.now labels points c.loop-i.i past))
    ∙ c.loop-i.invariant)
