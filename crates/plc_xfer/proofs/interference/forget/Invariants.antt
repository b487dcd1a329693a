use Rattle.std.proofs.Common.{◌≡◌, length, take, replicate}
use Rattle.plc_type.specs.Types.{bare}
use Rattle.plc_xfer.proofs.interference.forget.Given as goal

abbrev pub invariant-loop-i : goal.invariant-loop-i
invariant-loop-i l = record {
  same_length : length l.types ≡ length l.initial.types;
  forgotten : take l.i l.types ≡ replicate l.i (bare l.w);
}
