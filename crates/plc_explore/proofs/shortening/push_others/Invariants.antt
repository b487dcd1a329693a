use Rattle.std.proofs.Common.{◌≡◌, ◌≤◌, ◌+◌, ◌++◌, length, take}
use Rattle.plc_explore.specs.Leaving.{others}
use Rattle.plc_explore.proofs.shortening.push_others.Given as goal

abbrev pub invariant-loop-m : goal.invariant-loop-m
invariant-loop-m l = record {
  exact : l.left ≡ l.fn.left ++ others l.by (take l.m-index l.moves);
  no_more : length l.left ≤ length l.fn.left + l.m-index;
}
