-- A run that is drawn, as far as it has come: the moves that were kept lead from where runs begin to where it stands.
use Rattle.std.specs.Prelude.{◌≡◌, ◌<◌, ℕ, List, [], ◌∷◌, Some}
use Rattle.plc_auto.specs.declared.observer.Observer.{Observer}
use Rattle.plc_flow.specs.declared.flow.Flow.{Flow}
use Rattle.plc_moves.specs.declared.words.Move.{Move}
use Rattle.plc_run.specs.Run.{Configuration, Moves, first_configuration}
use Rattle.plc_run.specs.Position.{Position, threads_of}
use Rattle.plc_explore.specs.declared.program.Program.{Program}
use Rattle.plc_explore.specs.declared.walker.Turn.{Turn}
use Rattle.plc_explore.specs.declared.walker.Turn.TheVariants.{Went, Passed, Waits, Raced, Stuck}
use Rattle.plc_explore.specs.Racing.{IsRacingRun}

-- moves lead from a configuration to another
abbrev pub LeadsTo : Flow → Observer → ℕ → Configuration → List Move → Configuration → Type 0
LeadsTo flow o threads c [] d = c ≡ d
LeadsTo flow o threads c (move ∷ moves) d =
    (e : Configuration) × Moves flow o threads c move e × LeadsTo flow o threads e moves d

-- moves lead from where runs begin to a position
pub record IsWalked (program : Program) (moves : List Move) (p : Position) : Type 0 where
  pub some : 0 < threads_of p
  pub first : Configuration
  pub begins : first_configuration program.flow.now (threads_of p) ≡ Some first
  pub leads : LeadsTo program.flow.now program.observer.now (threads_of p) first moves p.here

-- moves are a run that races, among as many threads as the position has
abbrev pub IsRaceOf : Program → Position → List Move → Type 0
IsRaceOf program p moves = IsRacingRun program.flow.now program.observer.now (threads_of p) moves

-- what a turn leaves: a run that races, or one that can go on
abbrev pub IsTurned : Program → Turn → List Move → Position → Type 0
IsTurned program Raced moves p = IsRaceOf program p moves
IsTurned program Went moves p = IsWalked program moves p
IsTurned program Passed moves p = IsWalked program moves p
IsTurned program Waits moves p = IsWalked program moves p
IsTurned program Stuck moves p = IsWalked program moves p
