use Rattle.std.proofs.Common.{◌<◌, ℕ}
use Rattle.plc_at.specs.Reading.{HasParts}
use Rattle.plc_at.proofs.names.location_of_parts.Given as goal

abbrev pub invariant-loop-location : goal.invariant-loop-location
invariant-loop-location l = (k : ℕ) → k < l.location → HasParts l.observer l.first l.second k → ⊥
