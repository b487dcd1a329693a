use Rattle.std.proofs.Common.{◌≡◌, ◌<◌, ℕ, Some, slice_index}
use Rattle.plc_ground.specs.Changes.{HasArgumentIn}
use Rattle.plc_ground.proofs.equalities.place_in.Given as goal

abbrev pub invariant-loop-k : goal.invariant-loop-k
invariant-loop-k l = (n : ℕ) → n < l.k → HasArgumentIn l.set.terms l.class l.x (slice_index l.list n)
    → l.own ≡ Some (slice_index l.class (slice_index l.list n))
