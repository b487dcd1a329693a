use Rattle.std.proofs.Common.{◌≤◌, ◌-◌}
use Rattle.plc_ground.specs.Changes.{Extends}
use Rattle.plc_solve.specs.Search.{IsOfSome}
use Rattle.plc_solve.proofs.explain.needed.Given as goal

abbrev pub invariant-put : goal.invariant-put
invariant-put l = record {
  bound : l.k ≤ l.bound;
  closure : IsOfSome l.set l.equal.class;
  extends : Extends l.fn.equal l.equal;
}

abbrev pub decreases-put : goal.decreases-put
decreases-put l = l.bound - l.k
