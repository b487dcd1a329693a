use Rattle.std.proofs.Common.{◌≡◌, length, take}
use Rattle.plc_type.proofs.env.overwrite.Given as goal

abbrev pub invariant-loop-k : goal.invariant-loop-k
invariant-loop-k l = (length l.types ≡ length l.by) × (take l.k l.types ≡ take l.k l.by)
