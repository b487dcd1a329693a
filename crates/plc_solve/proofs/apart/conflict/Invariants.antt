use Rattle.std.proofs.Common.{◌≡◌, ◌<◌, ℕ, [], length}
use Rattle.std.specs.Prelude.{Contains, slice_index_or}
use Rattle.plc_ground.specs.Classes.{AreApart}
use Rattle.plc_solve.proofs.apart.conflict.Given as goal

abbrev pub invariant-loop-group : goal.invariant-loop-group
invariant-loop-group l = record {
  apart : (n : ℕ) → n < l.group-index → (i j : ℕ) → Contains (slice_index_or l.groups n []) i → Contains (slice_index_or l.groups n []) j → AreApart l.set l.class i j;
  last : length l.last ≡ length l.set.terms;
}
