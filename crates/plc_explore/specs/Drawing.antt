-- A run that was drawn.
use Rattle.std.specs.Prelude.{if◌then◌else◌, Option, Some, IsTrue}
use Rattle.plc_explore.specs.declared.exploring.Drawn.{Drawn}
use Rattle.plc_explore.specs.declared.program.Program.{Program}
use Rattle.plc_explore.specs.declared.trail.Trail.{Trail}
use Rattle.plc_explore.specs.Racing.{IsRacingRun}

-- it races where this is said of it
abbrev pub RacesWhereSaid : Program → Drawn → Type 0
RacesWhereSaid program drawn =
    IsTrue drawn.races → IsRacingRun program.flow.now program.observer.now drawn.trail.threads drawn.trail.moves

-- what is kept after it: its own moves, if it races
abbrev pub kept_after : Option Trail → Drawn → Option Trail
kept_after found drawn = if drawn.races then Some drawn.trail else found
