use Rattle.std.proofs.Common.{◌≡◌, length, take}
use Rattle.plc_type.proofs.env.lengthen.Given as goal

abbrev pub invariant-loop-k : goal.invariant-loop-k
invariant-loop-k l = (length l.types ≡ l.k) × (take l.before l.types ≡ l.fn.types)
