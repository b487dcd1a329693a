use Rattle.std.proofs.Common.{◌<◌, ℕ}
use Rattle.plc_at.specs.Reading.{IsPointerAt}
use Rattle.plc_at.proofs.names.has_pointers.Given as goal

abbrev pub invariant-loop-label : goal.invariant-loop-label
invariant-loop-label l = (k : ℕ) → k < l.label → IsPointerAt l.flow k 0 → ⊥
