-- What the code keeps of a run, and what each answer of a move says.
use Rattle.std.specs.Prelude.{◌≡◌, ℕ, ◌<◌, Bool, true, false, [], ◌∷◌, ◌++◌, length, Some, None, Result, Ok, Err}
use Rattle.plc_auto.specs.declared.event.Event.TheVariants.{Free as Freed}
use Rattle.plc_auto.specs.declared.observer.Observer.{Observer}
use Rattle.plc_auto.specs.Location.{Allowed}
use Rattle.plc_auto.specs.Locations.{Locations, of_threads, locations_after_all}
use Rattle.plc_flow.specs.declared.flow.Flow.{Flow}
use Rattle.plc_flow.specs.declared.steps_by_point.StepsByPoint.{StepsByPoint}
use Rattle.plc_flow.specs.StepsByPoint.{IsIndexOf, first_points}
use Rattle.plc_moves.specs.declared.words.Move.{Move}
use Rattle.plc_moves.specs.declared.words.Move.TheVariants.{Start, Step as Take, Return, Free}
use Rattle.plc_mem.specs.declared.cell.RaceKind.{RaceKind}
use Rattle.plc_run.specs.declared.moved.Moved.{Moved}
use Rattle.plc_run.specs.declared.moved.Moved.TheVariants as moved
use Rattle.plc_run.specs.Run.{Configuration, Run, Moves, Races, first_configuration}
use Rattle.plc_moves.specs.declared.words.StartFault.{StartFault}
use Rattle.plc_moves.specs.declared.words.StartFault.TheVariants as faults

-- the configuration of a run, whether a race has ended it, where each thread stands for each address, and the index by
-- which the steps of a point are found
pub record Position : Type 0 where
  pub here : Configuration
  pub ended : Bool
  pub located : Locations
  pub steps : StepsByPoint

-- how many threads it has
abbrev pub threads_of : Position → ℕ
threads_of p = length p.here.points

-- the locations are those of a watcher for each thread, which heard the whole history; so each thread stands for each
-- address where this observer comes to by the history (`locations_of_threads_follow`)
abbrev pub Follows : Observer → Position → Type 0
Follows o p = p.located ≡ locations_after_all (of_threads o (threads_of p)) p.here.history

-- so many moves of a run of this flow and observer lead there, the locations follow the history, and the index is that
-- of the flow's steps
pub record IsOfRun (flow : Flow) (o : Observer) (p : Position) : Type 0 where
  pub moves : ℕ
  pub run : Run flow o (threads_of p) moves p.here
  pub follows : Follows o p
  pub indexed : IsIndexOf (first_points flow) p.steps

-- by some observer it is of a run of this flow
abbrev pub IsOfSomeRun : Flow → Position → Type 0
IsOfSomeRun flow p = (o : Observer) × IsOfRun flow o p

-- an address is freed that the observer keeps
abbrev pub IsForbidden : Observer → ℕ → Configuration → Move → Type 0
IsForbidden o threads c (Free a) = (0 < a) × (Allowed o threads (c.history ++ Freed a ∷ []) → ⊥)
IsForbidden o threads c (Start t op args) = ⊥
IsForbidden o threads c (Take t nth addr) = ⊥
IsForbidden o threads c (Return t) = ⊥

-- no such move leads on from here, none is a race, and none is forbidden
pub record HasNone (flow : Flow) (o : Observer) (threads : ℕ) (c : Configuration) (move : Move) : Type 0 where
  pub no_move : (d : Configuration) → Moves flow o threads c move d → ⊥
  pub no_race : (kind : RaceKind) (k : ℕ) → Races flow threads c move kind k → ⊥
  pub not_forbidden : IsForbidden o threads c move → ⊥

-- what the answer of a start says
abbrev pub Starts : Flow → ℕ → Result Position StartFault → Type 0
Starts flow threads (Ok p) = (p.ended ≡ false) × (first_configuration flow threads ≡ Some p.here)
Starts flow threads (Err faults.NoStart) = first_configuration flow threads ≡ None
Starts flow threads (Err faults.Memory) = Unit {0}

-- what each answer says of the position before and after the move
abbrev pub Answers : Flow → Observer → Position → Move → Moved → Position → Type 0
Answers flow o p move moved.Done q =
    (p.ended ≡ false) × (q.ended ≡ false) × Moves flow o (threads_of p) p.here move q.here
Answers flow o p move (moved.Race kind k) q =
    (p.ended ≡ false) × Races flow (threads_of p) p.here move kind k × (q ≡ record p { ended = true })
Answers flow o p move (moved.Forbidden a) q =
    (p.ended ≡ false) × (move ≡ Free a) × IsForbidden o (threads_of p) p.here move × (q ≡ p)
Answers flow o p move moved.Blocked q = (p.ended ≡ false → HasNone flow o (threads_of p) p.here move) × (q ≡ p)
