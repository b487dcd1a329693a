use Rattle.std.proofs.Common.{◌≡◌, ◌≤◌, ◌++◌, length, take, drop, filter}
use Rattle.plc_base.specs.Mask.{has, numbers}
use Rattle.plc_cert.specs.Written.{members}
use Rattle.plc_cert.proofs.writing.locations_in.Given as goal

-- those that were found, and then those to come
abbrev pub invariant-loop-l : goal.invariant-loop-l
invariant-loop-l l = (l.count ≤ l.l) × (length l.locations ≡ 8) × (take l.count l.locations ++ filter (has l.mask) (drop l.l numbers) ≡ members l.mask)
