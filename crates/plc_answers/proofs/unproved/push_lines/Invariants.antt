use Rattle.std.proofs.Common.{◌≡◌, ◌++◌, drop, map}
use Rattle.plc_answers.specs.Unproved.{term_lines}
use Rattle.plc_answers.proofs.unproved.push_lines.Given as goal

abbrev pub invariant-loop-i : goal.invariant-loop-i
invariant-loop-i l =
    l.out.items ++ term_lines l.i (map (λ t. t.items) (drop l.i l.texts)) (drop l.i l.class)
    ≡ l.initial.out.items ++ term_lines 0 (map (λ t. t.items) l.texts) l.class
