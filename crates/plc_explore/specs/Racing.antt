-- Runs as lists of moves: where they lead, and which of them race.
use Rattle.std.specs.Prelude.{◌≡◌, ◌⊎◌, ◌<◌, ℕ, List, [], ◌∷◌, Option, Some, IfSome}
use Rattle.plc_auto.specs.declared.observer.Observer.{Observer}
use Rattle.plc_flow.specs.declared.flow.Flow.{Flow}
use Rattle.plc_moves.specs.declared.words.Move.{Move}
use Rattle.plc_mem.specs.declared.cell.RaceKind.{RaceKind}
use Rattle.plc_run.specs.Run.{Configuration, Moves, Races, first_configuration}
use Rattle.plc_explore.specs.declared.program.Program.{Program}
use Rattle.plc_explore.specs.declared.trail.Trail.{Trail}

-- moves lead from a configuration to a race: all but the last lead on, and the last is the race
abbrev pub LeadsToRace : Flow → Observer → ℕ → Configuration → List Move → Type 0
LeadsToRace flow o threads c [] = ⊥
LeadsToRace flow o threads c (move ∷ moves) =
    ((moves ≡ []) × (kind : RaceKind) × (k : ℕ) × Races flow threads c move kind k)
    ⊎ ((d : Configuration) × Moves flow o threads c move d × LeadsToRace flow o threads d moves)

-- a run among so many threads begins, and its moves lead to a race
pub record IsRacingRun (flow : Flow) (o : Observer) (threads : ℕ) (moves : List Move) : Type 0 where
  pub some : 0 < threads
  pub first : Configuration
  pub begins : first_configuration flow threads ≡ Some first
  pub races : LeadsToRace flow o threads first moves

-- moves among so many threads are a run of the program that races
abbrev pub RacesAmong : Program → ℕ → List Move → Type 0
RacesAmong program threads moves = IsRacingRun program.flow.now program.observer.now threads moves

-- a run that was found, if one was, is one of the program that races
abbrev pub FindsRaces : Program → Option Trail → Type 0
FindsRaces program found = IfSome found (λ run. RacesAmong program run.threads run.moves)
