-- Which moves of threads the points where they stand leave open.
use Rattle.std.specs.Prelude.{ℕ, Bool, false, ◌==◌, ◌&&◌, nat_lt, if◌then◌else◌, List, length, get_or, slice_get}
use Rattle.std.specs.Prelude.{Option, Some, None, is_none, option_map}
use Rattle.plc_lang.specs.declared.syntax.Op.{Op}
use Rattle.plc_lang.specs.Locals.{parameters_of}
use Rattle.plc_flow.specs.declared.flow.Step.{Step}
use Rattle.plc_flow.specs.declared.flow.Gate.{Gate}
use Rattle.plc_flow.specs.declared.flow.Flow.{Flow}
use Rattle.plc_flow.specs.declared.points.Point.{Point}
use Rattle.plc_flow.specs.Points.{steps_from}

-- there is such a thread, and it is idle
abbrev pub is_idle : List (Option Point) → ℕ → Bool
is_idle ps t = nat_lt t (length ps) && is_none (get_or ps t None)

-- the operation of this number and its entry, where it and its gate are there and it has so many parameters
abbrev pub entered : ℕ → List ℕ → Option Op → Option Gate → Option (Op × Point)
entered op args None g = None
entered op args (Some o) None = None
entered op args (Some o) (Some g) =
    if length args == parameters_of o then Some (o, record { op = op; at = g.entry.0 }) else None

-- what a thread begins with these arguments, and where: None where it isn't idle, or there is no such operation
abbrev pub begun : Flow → List (Option Point) → ℕ → ℕ → List ℕ → Option (Op × Point)
begun flow ps t op args =
    if is_idle ps t then entered op args (slice_get flow.file.ops op) (slice_get flow.gates op) else None

-- where a busy thread stands, and the nth step that leaves there
abbrev pub step_of : Flow → ℕ → Option Point → Option (Point × Step)
step_of flow nth None = None
step_of flow nth (Some p) = option_map (λ s. (p, s)) (slice_get (steps_from flow p.at) nth)

-- the point is the exit of the operation of this gate
abbrev pub exits : Point → Option Gate → Bool
exits p None = false
exits p (Some g) = p.at == g.exit.0

-- a thread is busy, and stands at the exit of its operation
abbrev pub at_exit : Flow → Option Point → Bool
at_exit flow None = false
at_exit flow (Some p) = exits p (slice_get flow.gates p.op)
