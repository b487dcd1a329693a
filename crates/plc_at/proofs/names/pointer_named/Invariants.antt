use Rattle.std.proofs.Common.{◌<◌, ℕ}
use Rattle.plc_at.specs.Reading.{AreNamed}
use Rattle.plc_at.proofs.names.pointer_named.Given as goal

abbrev pub invariant-loop-label : goal.invariant-loop-label
invariant-loop-label l = (k v : ℕ) → k < l.label → AreNamed l.flow l.label_text l.local_text k v → ⊥
