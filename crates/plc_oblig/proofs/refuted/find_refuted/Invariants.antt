use Rattle.std.proofs.Common.{◌<◌, ℕ}
use Rattle.plc_oblig.specs.Direct.{IsRefutedByLast}
use Rattle.plc_oblig.proofs.refuted.find_refuted.Given as goal

abbrev pub invariant-loop-c : goal.invariant-loop-c
invariant-loop-c l = (d : ℕ) → d < l.c → IsRefutedByLast l.set l.n d → ⊥
