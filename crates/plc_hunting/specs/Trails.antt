-- A run that was found, if one was.
use Rattle.std.specs.Prelude.{Option, Some, None}
use Rattle.plc_explore.specs.declared.trail.Trail.{Trail}
use Rattle.plc_check.specs.declared.judged.Judged.{Judged}
use Rattle.plc_explore.specs.Racing.{IsRacingRun}

-- there is one, and it races
abbrev pub TrailRaces : Judged → Option Trail → Type 0
TrailRaces j None = ⊥
TrailRaces j (Some run) = IsRacingRun j.flow j.observer run.threads run.moves
