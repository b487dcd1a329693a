use Rattle.std.proofs.Common.{◌≡◌, ◌++◌}
use Rattle.plc_sample.specs.Sample.{copies}
use Rattle.plc_sample.proofs.numbering.push_copies.Given as goal

abbrev pub invariant-loop-made : goal.invariant-loop-made
invariant-loop-made l = l.out.items ≡ l.fn.out.items ++ copies l.made l.part
