use Rattle.std.proofs.Common.{◌≡◌, length, take, drop}
use Rattle.plc_ground.specs.Changes.{undone}
use Rattle.plc_ground.proofs.equalities.take_back.Given as goal

abbrev pub invariant-changes : goal.invariant-changes
invariant-changes l = record {
  class : undone (drop l.mark l.equal.trail) l.equal.class ≡ undone (drop l.mark l.fn.equal.trail) l.fn.equal.class;
  trail : take l.mark l.equal.trail ≡ take l.mark l.fn.equal.trail;
}

abbrev pub decreases-changes : goal.decreases-changes
decreases-changes l = length l.equal.trail
