use Rattle.std.proofs.Common.{◌<◌, ℕ}
use Rattle.plc_at.specs.Reading.{BeginsWith}
use Rattle.plc_at.proofs.names.location_with.Given as goal

abbrev pub invariant-loop-location : goal.invariant-loop-location
invariant-loop-location l = (k : ℕ) → k < l.location → BeginsWith l.observer l.first k → ⊥
