use Rattle.std.proofs.Common.{◌≡◌, ◌<◌, ℕ, length, slice_index}
use Rattle.plc_ground.proofs.equalities.all_apart.Given as goal

abbrev pub invariant-loop-i : goal.invariant-loop-i
invariant-loop-i l = record {
  len : length l.class ≡ l.i;
  own : (k : ℕ) → k < l.i → slice_index l.class k ≡ k;
}
