-- Runs begin and go on, each move leads to one configuration, and a race is the last; and each law of runs in a word.
use Rattle.std.specs.Prelude.{◌≡◌, ℕ, ◌<◌, true, ◌++◌, ◌∷◌, [], List, Option, Some, None, length, slice_get}
use Rattle.plc_lang.specs.declared.syntax.Op.{Op}
use Rattle.plc_lang.specs.Locals.{parameters_of}
use Rattle.plc_auto.specs.declared.event.Event.{Event}
use Rattle.plc_auto.specs.declared.event.Event.TheVariants.{Free as Freed}
use Rattle.plc_auto.specs.declared.observer.Observer.{Observer}
use Rattle.plc_auto.specs.Location.{Allowed}
use Rattle.plc_auto.specs.Table.{is_well_formed}
use Rattle.plc_base.specs.declared.ids.OpId.{OpId}
use Rattle.plc_flow.specs.declared.flow.Step.{Step}
use Rattle.plc_flow.specs.declared.flow.Gate.{Gate}
use Rattle.plc_flow.specs.declared.flow.Flow.{Flow}
use Rattle.plc_flow.specs.WellFormed.{FlowFits}
use Rattle.plc_flow.specs.WellSorted.{FlowIsWellSorted}
use Rattle.plc_moves.specs.declared.words.Move.{Move}
use Rattle.plc_moves.specs.declared.words.Move.TheVariants.{Start, Step as Take, Return, Free}
use Rattle.plc_mem.specs.declared.cell.RaceKind.{RaceKind}
use Rattle.plc_mem.specs.State.{State}
use Rattle.plc_flow.specs.declared.points.Point.{Point}
use Rattle.plc_run.specs.Run.{Configuration, Run, Moves, Races, Fine, MayTake, taken, point_of, first_configuration}
use Rattle.plc_run.specs.Fit.{ConfigurationFits}
use Rattle.plc_run.specs.Observed.{RunsAreObserved}
use Rattle.plc_run.specs.Quiet.{InitIsQuiet}

-- some configuration is reached by the move
abbrev pub MayMove : Flow → Observer → ℕ → Configuration → Move → Type 0
MayMove flow o threads c move = (d : Configuration) × Moves flow o threads c move d

-- what every flow's runs do
pub record RunLaws (flow : Flow) (o : Observer) (threads : ℕ) : Type 0 where
  pub begins : (c : Configuration) → first_configuration flow threads ≡ Some c → Run flow o threads 0 c
  pub starts : (c : Configuration) (t : ℕ) (op : OpId) (args : List ℕ) (operation : Op) (gate : Gate)
      → t < threads → point_of c t ≡ None → slice_get flow.file.ops op.0 ≡ Some operation
      → slice_get flow.gates op.0 ≡ Some gate → length args ≡ parameters_of operation
      → MayMove flow o threads c (Start t op args)
  pub steps : (c : Configuration) (t nth : ℕ) (addr : Option ℕ) (p : Point) (step : Step) (s : State) (h : List Event)
      → MayTake flow threads c t nth addr p step → taken c t addr step ≡ Fine s h
      → MayMove flow o threads c (Take t nth addr)
  pub returns : (c : Configuration) (t : ℕ) (p : Point) (gate : Gate)
      → t < threads → point_of c t ≡ Some p → slice_get flow.gates p.op ≡ Some gate → p.at ≡ gate.exit.0
      → MayMove flow o threads c (Return t)
  pub frees : (c : Configuration) (a : ℕ) → 0 < a → Allowed o threads (c.history ++ Freed a ∷ [])
      → MayMove flow o threads c (Free a)
  pub frees_allowed : (c : Configuration) (a : ℕ) → MayMove flow o threads c (Free a)
      → Allowed o threads (c.history ++ Freed a ∷ [])
  pub frees_no_null : (c : Configuration) → MayMove flow o threads c (Free 0) → ⊥
  pub one_end : (c d e : Configuration) (move : Move) → Moves flow o threads c move d → Moves flow o threads c move e
      → d ≡ e
  pub race_is_last : (c d : Configuration) (move : Move) (kind : RaceKind) (k : ℕ) → Races flow threads c move kind k
      → Moves flow o threads c move d → ⊥
  pub one_race : (c : Configuration) (move : Move) (kind other : RaceKind) (k n : ℕ)
      → Races flow threads c move kind k → Races flow threads c move other n → (kind ≡ other) × (k ≡ n)

-- ---- the laws, each for all that it speaks of

-- every flow's runs go on, by every observer and with any number of threads
abbrev pub RunsGoOn : Type 0
RunsGoOn = (flow : Flow) (o : Observer) (threads : ℕ) → RunLaws flow o threads

-- every run is observed, by each observer for which `retire` belongs to no scheme
abbrev pub EveryRunIsObserved : Type 0
EveryRunIsObserved = (o : Observer) (threads : ℕ) → is_well_formed o ≡ true → RunsAreObserved o threads

-- in every configuration of a run of a flow that names what is there each busy thread holds its operation's locals
abbrev pub ThreadsHoldTheirLocals : Type 0
ThreadsHoldTheirLocals =
    (flow : Flow) (o : Observer) (threads n : ℕ) (c : Configuration)
    → FlowFits flow → 0 < threads → Run flow o threads n c → ConfigurationFits flow threads c

-- each `init` is quiet of a flow in which each thing stands where its kind may stand
abbrev pub EveryInitIsQuiet : Type 0
EveryInitIsQuiet = (flow : Flow) (threads : ℕ) → FlowIsWellSorted flow → InitIsQuiet flow threads
