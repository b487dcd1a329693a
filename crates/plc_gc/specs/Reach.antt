-- What a garbage-collected move leads to, as a function: the code answers by it, and a proof says that it is what
-- `Moves` says.
use Rattle.std.specs.Prelude.{ℕ, if◌then◌else◌, List, Option, Some, None}
use Rattle.plc_base.specs.Tables.{put_at}
use Rattle.plc_lang.specs.declared.syntax.Op.{Op}
use Rattle.plc_flow.specs.declared.flow.Step.{Step}
use Rattle.plc_flow.specs.declared.flow.Flow.{Flow}
use Rattle.plc_moves.specs.declared.words.Move.{Move}
use Rattle.plc_moves.specs.declared.words.Move.TheVariants.{Start, Step as Take, Return, Free}
use Rattle.plc_flow.specs.declared.points.Point.{Point}
use Rattle.plc_moves.specs.Standing.{begun, step_of, at_exit}
use Rattle.plc_gc.specs.declared.config.GcMoved.{GcMoved}
use Rattle.plc_gc.specs.declared.config.GcMoved.TheVariants as moved
use Rattle.plc_gc.specs.State.{GcState, with_locals, starting}
use Rattle.plc_gc.specs.Run.{GcConfiguration, execute, point_of}

-- thread t begins an operation, if there is one that it may begin
abbrev pub started : GcConfiguration → ℕ → List ℕ → Option (Op × Point) → Option GcConfiguration
started c t args None = None
started c t args (Some b) = Some (record {
  state = with_locals c.state t (Some (starting b.0 args));
  points = put_at None c.points t (Some b.1);
})

-- a start
abbrev pub start_from : Flow → GcConfiguration → ℕ → ℕ → List ℕ → Option GcConfiguration
start_from flow c t op args = started c t args (begun flow c.points t op args)

-- what a step leads to by how its primitives end
abbrev pub ended_as : GcConfiguration → ℕ → Point → ℕ → Option GcState → Option GcConfiguration
ended_as c t p to None = None
ended_as c t p to (Some g) = Some (record { state = g; points = put_at None c.points t (Some (record p { at = to })) })

-- thread t takes a step, if there is one that it may take
abbrev pub taken : GcConfiguration → ℕ → Option (Point × Step) → Option GcConfiguration
taken c t None = None
taken c t (Some s) = ended_as c t s.0 s.1.to.0 (execute c.state t s.1.prims)

-- a step
abbrev pub step_from : Flow → GcConfiguration → ℕ → ℕ → Option Point → Option GcConfiguration
step_from flow c t nth q = taken c t (step_of flow nth q)

-- a return
abbrev pub return_from : Flow → GcConfiguration → ℕ → Option Point → Option GcConfiguration
return_from flow c t q =
    if at_exit flow q then Some (record { state = with_locals c.state t None; points = put_at None c.points t None })
    else None

-- each kind of move; None where it is blocked
unfoldable pub reach : Flow → GcConfiguration → Move → Option GcConfiguration
reach flow c (Start t op args) = start_from flow c t op.0 args
reach flow c (Take t nth addr) = step_from flow c t nth (point_of c t)
reach flow c (Return t) = return_from flow c t (point_of c t)
reach flow c (Free a) = Some c

-- the configuration after a move, by what the move leads to: a blocked one changes nothing
abbrev pub reached : Option GcConfiguration → GcConfiguration → GcConfiguration
reached (Some d) c = d
reached None c = c

-- the answer by what the move leads to
abbrev pub answer : Option GcConfiguration → GcMoved
answer (Some d) = moved.Done
answer None = moved.Blocked
