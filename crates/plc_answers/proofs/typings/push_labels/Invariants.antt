use Rattle.std.proofs.Common.{◌≡◌, ◌++◌, drop}
use Rattle.plc_answers.specs.Typings.{label_lines}
use Rattle.plc_answers.proofs.typings.push_labels.Given as goal

abbrev pub invariant-loop-i : goal.invariant-loop-i
invariant-loop-i l =
    l.out.items ++ label_lines l.flow l.observer l.envs (drop l.i l.labels) (drop l.i l.points)
    ≡ l.initial.out.items ++ label_lines l.flow l.observer l.envs l.labels l.points
