-- Configurations, moves and runs, and the races of a move.
use Rattle.std.specs.Prelude.{◌≡◌, ℕ, suc, ◌+◌, ◌<◌, Bool, true, false, List, [], ◌∷◌, ◌++◌, length, get_or}
use Rattle.std.specs.Prelude.{slice_get, replicate, Option, Some, None}
use Rattle.plc_lang.specs.declared.syntax.Primitive.{Primitive}
use Rattle.plc_lang.specs.declared.syntax.Op.{Op}
use Rattle.plc_lang.specs.Locals.{parameters_of}
use Rattle.plc_auto.specs.declared.event.Event.{Event}
use Rattle.plc_auto.specs.declared.event.Event.TheVariants.{Free as Freed}
use Rattle.plc_auto.specs.declared.observer.Observer.{Observer}
use Rattle.plc_auto.specs.Location.{Allowed}
use Rattle.plc_flow.specs.declared.flow.Step.{Step}
use Rattle.plc_flow.specs.declared.flow.Gate.{Gate}
use Rattle.plc_flow.specs.declared.flow.Flow.{Flow}
use Rattle.plc_moves.specs.declared.words.Move.{Move}
use Rattle.plc_moves.specs.declared.words.Move.TheVariants.{Start, Step as Take, Return, Free}
use Rattle.plc_mem.specs.declared.cell.RaceKind.{RaceKind}
use Rattle.plc_flow.specs.declared.points.Point.{Point}
use Rattle.plc_flow.specs.Points.{steps_from, Names}
use Rattle.plc_mem.specs.State.{State, with_locals, freed, first_state, no_locals, starting}
use Rattle.plc_base.specs.Tables.{put_at}
use Rattle.plc_mem.specs.Primitives.{race_of, goes, after, event_of}
use Rattle.plc_mem.specs.Outcomes.{address_or_null}

-- how a list of primitives ends: all succeeded, one is blocked, or primitive k is a race
pub data Ending : Type 0 where
  Fine : State → List Event → Ending
  Stuck : Ending
  Raced : RaceKind → ℕ → Ending

-- a history with an event after it, if there is one
abbrev pub recorded : List Event → Option Event → List Event
recorded h None = h
recorded h (Some e) = h ++ e ∷ []

-- a primitive that is a race ends the step there, also where it or a later one is blocked
abbrev pub turn : Option RaceKind → Bool → ℕ → Ending → Ending
turn (Some kind) unblocked k next = Raced kind k
turn None true k next = next
turn None false k next = Stuck

-- the primitives of thread t in order, the first of them number k; a is the address that a `new` takes
abbrev pub execute : State → List Event → ℕ → ℕ → ℕ → List Primitive → Ending
execute s h t a k [] = Fine s h
execute s h t a k (p ∷ ps) =
    turn (race_of s t p) (goes s t a p) k (execute (after s t a p) (recorded h (event_of s t p)) t a (k + 1) ps)

-- what memory holds, what happened, and where each thread stands: None where it is idle
pub record Configuration : Type 0 where
  pub state : State
  pub history : List Event
  pub points : List (Option Point)

-- the point where thread t stands, None for an idle thread
abbrev pub point_of : Configuration → ℕ → Option Point
point_of c t = get_or c.points t None

-- thread t is at a point of an operation from which this step leaves, and the move is of the step's shape
pub record MayTake (flow : Flow) (threads : ℕ) (c : Configuration) (t nth : ℕ) (addr : Option ℕ) (p : Point) (s : Step)
    : Type 0 where
  pub known : t < threads
  pub busy : point_of c t ≡ Some p
  pub leaves_there : slice_get (steps_from flow p.at) nth ≡ Some s
  pub shape : Names addr s

-- what the step of thread t comes to
abbrev pub taken : Configuration → ℕ → Option ℕ → Step → Ending
taken c t addr s = execute c.state c.history t (address_or_null addr) 0 s.prims

-- one move that is no race leads from c to d
abbrev pub Moves : Flow → Observer → ℕ → Configuration → Move → Configuration → Type 0
Moves flow o threads c (Start t op args) d =
    (operation : Op) × (gate : Gate) × (t < threads) × (point_of c t ≡ None)
    × (slice_get flow.file.ops op.0 ≡ Some operation) × (slice_get flow.gates op.0 ≡ Some gate)
    × (length args ≡ parameters_of operation)
    × (d ≡ record c {
      state = with_locals c.state t (Some (starting operation args));
      points = put_at None c.points t (Some (record { op = op.0; at = gate.entry.0 }));
    })
Moves flow o threads c (Take t nth addr) d =
    (p : Point) × (step : Step) × (s : State) × (h : List Event) × MayTake flow threads c t nth addr p step
    × (taken c t addr step ≡ Fine s h)
    × (d ≡ record { state = s; history = h; points = put_at None c.points t (Some (record p { at = step.to.0 })) })
Moves flow o threads c (Return t) d =
    (p : Point) × (gate : Gate) × (t < threads) × (point_of c t ≡ Some p) × (slice_get flow.gates p.op ≡ Some gate)
    × (p.at ≡ gate.exit.0)
    × (d ≡ record c { state = with_locals c.state t None; points = put_at None c.points t None })
Moves flow o threads c (Free a) d =
    (0 < a) × Allowed o threads (c.history ++ Freed a ∷ [])
    × (d ≡ record c { state = freed c.state a; history = c.history ++ Freed a ∷ [] })

-- a move is a race at primitive k of the step that it takes; it is the last move of its run
abbrev pub Races : Flow → ℕ → Configuration → Move → RaceKind → ℕ → Type 0
Races flow threads c (Start t op args) kind k = ⊥
Races flow threads c (Take t nth addr) kind k =
    (p : Point) × (step : Step) × MayTake flow threads c t nth addr p step × (taken c t addr step ≡ Raced kind k)
Races flow threads c (Return t) kind k = ⊥
Races flow threads c (Free a) kind k = ⊥

-- ---- where runs begin

-- `init` is taken by thread 0 before all, without locals; its `new` takes the address 1
abbrev pub initialised : Flow → ℕ → Ending
initialised flow threads = execute (with_locals (first_state flow threads) 0 (Some no_locals)) [] 0 1 0 flow.file.init

-- no thread is in an operation; `init` has no call, so that nothing was heard
abbrev pub beginning : ℕ → Ending → Option Configuration
beginning threads (Fine s h) =
    Some (record { state = with_locals s 0 None; history = h; points = replicate threads None })
beginning threads Stuck = None
beginning threads (Raced kind k) = None

-- where a run begins: in what `init` leaves; where that is blocked there is no run
abbrev pub first_configuration : Flow → ℕ → Option Configuration
first_configuration flow threads = beginning threads (initialised flow threads)

-- n moves without a race lead from the beginning to a configuration
pub data Run (flow : Flow) (o : Observer) (threads : ℕ) : ℕ → Configuration → Type 0 where
  begin : {c : Configuration} → first_configuration flow threads ≡ Some c → Run flow o threads 0 c
  more : {n : ℕ} {c d : Configuration} → Run flow o threads n c → (move : Move) → Moves flow o threads c move d
      → Run flow o threads (suc n) d

-- in no run of the flow, with any number of threads, any interleaving, any reuse of addresses and any allowed free,
-- is a step a pointer race or a second retire
abbrev pub NeverRaces : Flow → Observer → Type 0
NeverRaces flow o =
    (threads n : ℕ) (c : Configuration) → 0 < threads → Run flow o threads n c
    → (move : Move) (kind : RaceKind) (k : ℕ) → Races flow threads c move kind k → ⊥
