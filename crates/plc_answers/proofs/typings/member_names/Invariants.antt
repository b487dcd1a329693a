use Rattle.std.proofs.Common.{◌≡◌, ◌++◌, drop, map}
use Rattle.plc_auto.specs.Table.{names_of}
use Rattle.plc_answers.specs.Typings.{member_names}
use Rattle.plc_answers.proofs.typings.member_names.Given as goal

abbrev pub invariant-loop-l : goal.invariant-loop-l
invariant-loop-l l = map (λ n. n.now) l.names.items ++ member_names l.set l.l (drop l.l (names_of l.observer)) ≡ member_names l.set 0 (names_of l.observer)
