use Rattle.std.proofs.Common.{◌≡◌, length}
use Rattle.plc_explore.proofs.shortening.numbered.Given as goal

abbrev pub invariant-loop-m : goal.invariant-loop-m
invariant-loop-m l = length l.same ≡ l.m-index
