-- Garbage-collected configurations, moves and runs.
use Rattle.std.specs.Prelude.{◌≡◌, ℕ, ◌<◌, Bool, true, false, List, [], ◌∷◌, ◌++◌, length, get_or, slice_get, replicate}
use Rattle.std.specs.Prelude.{Option, Some, None}
use Rattle.plc_lang.specs.declared.syntax.Primitive.{Primitive}
use Rattle.plc_lang.specs.declared.syntax.Op.{Op}
use Rattle.plc_lang.specs.Locals.{parameters_of}
use Rattle.plc_flow.specs.declared.flow.Step.{Step}
use Rattle.plc_flow.specs.declared.flow.Gate.{Gate}
use Rattle.plc_flow.specs.declared.flow.Flow.{Flow}
use Rattle.plc_moves.specs.declared.words.Move.{Move}
use Rattle.plc_moves.specs.declared.words.Move.TheVariants.{Start, Step as Take, Return, Free}
use Rattle.plc_base.specs.Tables.{put_at}
use Rattle.plc_flow.specs.declared.points.Point.{Point}
use Rattle.plc_flow.specs.Points.{steps_from}
use Rattle.plc_gc.specs.State.{GcState, with_locals, first_state, no_locals, starting}
use Rattle.plc_gc.specs.Primitives.{goes, after}

-- what comes after a primitive: nothing where it is blocked
abbrev pub turn : Bool → Option GcState → Option GcState
turn true next = next
turn false next = None

-- the primitives of thread t in order, None where one is blocked
abbrev pub execute : GcState → ℕ → List Primitive → Option GcState
execute g t [] = Some g
execute g t (p ∷ ps) = turn (goes g t p) (execute (after g t p) t ps)

-- the values, and where each thread stands: None where it is idle
pub record GcConfiguration : Type 0 where
  pub state : GcState
  pub points : List (Option Point)

-- the point where thread t stands, None for an idle thread
abbrev pub point_of : GcConfiguration → ℕ → Option Point
point_of c t = get_or c.points t None

-- thread t is at a point of an operation from which this step leaves
pub record MayTake (flow : Flow) (threads : ℕ) (c : GcConfiguration) (t nth : ℕ) (p : Point) (s : Step) : Type 0 where
  pub known : t < threads
  pub busy : point_of c t ≡ Some p
  pub leaves_there : slice_get (steps_from flow p.at) nth ≡ Some s

-- one move leads from c to d; the address of a step is ignored, and a free changes nothing
abbrev pub Moves : Flow → ℕ → GcConfiguration → Move → GcConfiguration → Type 0
Moves flow threads c (Start t op args) d =
    (operation : Op) × (gate : Gate) × (t < threads) × (point_of c t ≡ None)
    × (slice_get flow.file.ops op.0 ≡ Some operation) × (slice_get flow.gates op.0 ≡ Some gate)
    × (length args ≡ parameters_of operation)
    × (d ≡ record {
      state = with_locals c.state t (Some (starting operation args));
      points = put_at None c.points t (Some (record { op = op.0; at = gate.entry.0 }));
    })
Moves flow threads c (Take t nth addr) d =
    (p : Point) × (step : Step) × (g : GcState) × MayTake flow threads c t nth p step
    × (execute c.state t step.prims ≡ Some g)
    × (d ≡ record { state = g; points = put_at None c.points t (Some (record p { at = step.to.0 })) })
Moves flow threads c (Return t) d =
    (p : Point) × (gate : Gate) × (t < threads) × (point_of c t ≡ Some p) × (slice_get flow.gates p.op ≡ Some gate)
    × (p.at ≡ gate.exit.0)
    × (d ≡ record { state = with_locals c.state t None; points = put_at None c.points t None })
Moves flow threads c (Free a) d = d ≡ c

-- ---- where runs begin

-- `init` is taken by thread 0 before all, without locals
abbrev pub initialised : Flow → ℕ → Option GcState
initialised flow threads = execute (with_locals (first_state flow threads) 0 (Some no_locals)) 0 flow.file.init

-- no thread is in an operation
abbrev pub beginning : ℕ → Option GcState → Option GcConfiguration
beginning threads (Some g) = Some (record { state = with_locals g 0 None; points = replicate threads None })
beginning threads None = None

-- where a run begins; where `init` is blocked there is no run
abbrev pub first_configuration : Flow → ℕ → Option GcConfiguration
first_configuration flow threads = beginning threads (initialised flow threads)

-- these moves lead from the beginning to a configuration
pub data GcRun (flow : Flow) (threads : ℕ) : List Move → GcConfiguration → Type 0 where
  begin : {c : GcConfiguration} → first_configuration flow threads ≡ Some c → GcRun flow threads [] c
  more : {moves : List Move} {c d : GcConfiguration} → GcRun flow threads moves c → (move : Move)
      → Moves flow threads c move d → GcRun flow threads (moves ++ move ∷ []) d
