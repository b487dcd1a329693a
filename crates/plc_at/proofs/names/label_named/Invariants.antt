use Rattle.std.proofs.Common.{◌<◌, ℕ}
use Rattle.plc_at.specs.Reading.{IsLabelNamed}
use Rattle.plc_at.proofs.names.label_named.Given as goal

abbrev pub invariant-loop-label : goal.invariant-loop-label
invariant-loop-label l = (k : ℕ) → k < l.label → IsLabelNamed l.flow l.name k → ⊥
