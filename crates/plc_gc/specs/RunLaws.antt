-- Garbage-collected runs begin and go on, and each move leads to one configuration.
use Rattle.std.specs.Prelude.{◌≡◌, ℕ, ◌<◌, [], List, Option, Some, None, length, slice_get}
use Rattle.plc_lang.specs.declared.syntax.Op.{Op}
use Rattle.plc_lang.specs.Locals.{parameters_of}
use Rattle.plc_base.specs.declared.ids.OpId.{OpId}
use Rattle.plc_flow.specs.declared.flow.Step.{Step}
use Rattle.plc_flow.specs.declared.flow.Gate.{Gate}
use Rattle.plc_flow.specs.declared.flow.Flow.{Flow}
use Rattle.plc_moves.specs.declared.words.Move.{Move}
use Rattle.plc_moves.specs.declared.words.Move.TheVariants.{Start, Step as Take, Return, Free}
use Rattle.plc_flow.specs.declared.points.Point.{Point}
use Rattle.plc_gc.specs.State.{GcState}
use Rattle.plc_gc.specs.Run.{GcConfiguration, GcRun, Moves, MayTake, execute, point_of, first_configuration}

-- some configuration is reached by the move
abbrev pub MayMove : Flow → ℕ → GcConfiguration → Move → Type 0
MayMove flow threads c move = (d : GcConfiguration) × Moves flow threads c move d

-- what every flow's garbage-collected runs do; the address of a step makes no difference
pub record GcRunLaws (flow : Flow) (threads : ℕ) : Type 0 where
  pub begins : (c : GcConfiguration) → first_configuration flow threads ≡ Some c → GcRun flow threads [] c
  pub starts : (c : GcConfiguration) (t : ℕ) (op : OpId) (args : List ℕ) (operation : Op) (gate : Gate)
      → t < threads → point_of c t ≡ None → slice_get flow.file.ops op.0 ≡ Some operation
      → slice_get flow.gates op.0 ≡ Some gate → length args ≡ parameters_of operation
      → MayMove flow threads c (Start t op args)
  pub steps : (c : GcConfiguration) (t nth : ℕ) (addr : Option ℕ) (p : Point) (step : Step) (g : GcState)
      → MayTake flow threads c t nth p step → execute c.state t step.prims ≡ Some g
      → MayMove flow threads c (Take t nth addr)
  pub any_address : (c d : GcConfiguration) (t nth : ℕ) (addr other : Option ℕ)
      → Moves flow threads c (Take t nth addr) d → Moves flow threads c (Take t nth other) d
  pub returns : (c : GcConfiguration) (t : ℕ) (p : Point) (gate : Gate)
      → t < threads → point_of c t ≡ Some p → slice_get flow.gates p.op ≡ Some gate → p.at ≡ gate.exit.0
      → MayMove flow threads c (Return t)
  pub frees : (c : GcConfiguration) (a : ℕ) → Moves flow threads c (Free a) c
  pub one_end : (c d e : GcConfiguration) (move : Move) → Moves flow threads c move d → Moves flow threads c move e
      → d ≡ e
  pub one_run : (moves : List Move) (c d : GcConfiguration) → GcRun flow threads moves c → GcRun flow threads moves d
      → c ≡ d

-- so it is with every flow
abbrev pub CollectedRunsGoOn : Type 0
CollectedRunsGoOn = (flow : Flow) (threads : ℕ) → GcRunLaws flow threads
