use Rattle.std.proofs.Common.{◌≡◌, ◌++◌, drop, map}
use Rattle.plc_answers.specs.Typings.{others}
use Rattle.plc_answers.proofs.typings.push_others.Given as goal

abbrev pub invariant-loop-word : goal.invariant-loop-word
invariant-loop-word l = l.out.items ++ others (map (λ w. w.now) (drop l.word-index l.words)) ≡ l.initial.out.items ++ others (map (λ w. w.now) l.words)
