-- What is left of a run, of which moves were left out.
use Rattle.std.specs.Prelude.{ℕ, ◌≤◌, Option, IfSome, length}
use Rattle.plc_explore.specs.declared.follow.Followed.{Followed}
use Rattle.plc_explore.specs.declared.program.Program.{Program}
use Rattle.plc_explore.specs.Racing.{RacesAmong}

-- what is left, if something could be left out, races, and has no more than so many moves
abbrev pub IsLeft : Program → ℕ → Option Followed → Type 0
IsLeft program count left =
    IfSome left (λ run. RacesAmong program run.threads run.moves × (length run.moves ≤ count))
