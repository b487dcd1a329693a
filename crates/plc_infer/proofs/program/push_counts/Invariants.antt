use Rattle.std.proofs.Common.{◌≡◌, ◌++◌, ◌-◌, replicate}
use Rattle.plc_infer.proofs.program.push_counts.Given as goal

abbrev pub invariant-loop : goal.invariant-loop
invariant-loop l = l.counts.items ≡ l.fn.counts.items ++ replicate (l.counter - l.fn.gate.first) l.count
