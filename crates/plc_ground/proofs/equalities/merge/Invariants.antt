use Rattle.std.proofs.Common.{◌≡◌}
use Rattle.plc_ground.specs.Changes.{Extends}
use Rattle.plc_ground.proofs.Changing.{MergedUpTo}
use Rattle.plc_ground.proofs.equalities.merge.Given as goal

abbrev pub invariant-loop-k : goal.invariant-loop-k
invariant-loop-k l = record {
  merged : MergedUpTo l.fn.equal.class l.equal.class l.low l.high l.k;
  extends : Extends l.fn.equal l.equal;
  joined : l.equal.joined ≡ l.fn.equal.joined;
}
