use Rattle.std.proofs.Common.{◌≤◌, length}
use Rattle.plc_solve.specs.Search.{PutsSome}
use Rattle.plc_solve.proofs.explain.put_needed.Given as goal

abbrev pub invariant-needed : goal.invariant-needed
invariant-needed l = record {
  bound : l.bound ≤ length l.branch;
  puts : PutsSome l.set l.branch l.core.items l.equal.class;
}

abbrev pub decreases-needed : goal.decreases-needed
decreases-needed l = l.bound
