-- Why there is no such move: the first cause in the order in which a move is looked at.
use Rattle.std.specs.Prelude.{ℕ, Bool, true, false, ◌==◌, ◌+◌, nat_lt, if◌then◌else◌, List, [], ◌∷◌, length, slice_get}
use Rattle.std.specs.Prelude.{◌≡◌, ◌↔◌, ◌⊎◌, Option, Some, None, is_some, option_map, IsTrue}
use Rattle.plc_lang.specs.declared.syntax.Op.{Op}
use Rattle.plc_lang.specs.declared.syntax.Primitive.{Primitive}
use Rattle.plc_lang.specs.Locals.{parameters_of}
use Rattle.plc_auto.specs.declared.observer.Observer.{Observer}
use Rattle.plc_flow.specs.declared.flow.Step.{Step}
use Rattle.plc_flow.specs.declared.flow.Flow.{Flow}
use Rattle.plc_flow.specs.declared.points.Point.{Point}
use Rattle.plc_flow.specs.Points.{steps_from, names_rightly}
use Rattle.plc_moves.specs.declared.words.Move.{Move}
use Rattle.plc_moves.specs.declared.words.Move.TheVariants.{Start, Step as Take, Return, Free}
use Rattle.plc_moves.specs.Standing.{at_exit}
use Rattle.plc_mem.specs.declared.cell.RaceKind.{RaceKind}
use Rattle.plc_mem.specs.State.{State}
use Rattle.plc_mem.specs.Primitives.{race_of, goes, after}
use Rattle.plc_mem.specs.Outcomes.{address_or_null}
use Rattle.plc_run.specs.declared.refusal.Refusal.{Refusal}
use Rattle.plc_run.specs.declared.refusal.Refusal.TheVariants as because
use Rattle.plc_run.specs.Run.{Configuration, point_of}
use Rattle.plc_run.specs.Position.{Position, threads_of, IsOfRun, HasNone}

-- a primitive that is a race ends the step, and isn't blocked
abbrev pub blocked_turn : Option RaceKind → Bool → ℕ → Option ℕ → Option ℕ
blocked_turn (Some kind) unblocked k later = None
blocked_turn None true k later = later
blocked_turn None false k later = Some k

-- which of these primitives of thread t is blocked, the first of them number k; a is the address that a `new` takes
abbrev pub blocked_in : State → ℕ → ℕ → ℕ → List Primitive → Option ℕ
blocked_in s t a k [] = None
blocked_in s t a k (p ∷ ps) =
    blocked_turn (race_of s t p) (goes s t a p) k (blocked_in (after s t a p) t a (k + 1) ps)

-- the cause by which a blocked primitive refuses its step
abbrev pub blocked_by : ℕ → Refusal
blocked_by k = because.Blocked k

-- an operation that the thread would begin, with these arguments
abbrev pub unstarted : List ℕ → Option Op → Option Refusal
unstarted args None = Some because.NoOperation
unstarted args (Some o) = if length args == parameters_of o then None else Some because.Arguments

-- a step that leaves the point of the thread, by a move that names an address or none
abbrev pub untaken : Configuration → ℕ → Option ℕ → Option Step → Option Refusal
untaken c t addr None = Some because.NoStep
untaken c t addr (Some s) =
    if names_rightly addr s then option_map blocked_by (blocked_in c.state t (address_or_null addr) 0 s.prims) else
    if is_some addr then Some because.NotAllocating else Some because.NoAddress

-- a start, where the thread stands
abbrev pub start_refused : Flow → ℕ → List ℕ → Option Point → Option Refusal
start_refused flow op args None = unstarted args (slice_get flow.file.ops op)
start_refused flow op args (Some p) = Some because.Busy

-- a step, where the thread stands
abbrev pub step_refused : Flow → Configuration → ℕ → ℕ → Option ℕ → Option Point → Option Refusal
step_refused flow c t nth addr None = Some because.Idle
step_refused flow c t nth addr (Some p) = untaken c t addr (slice_get (steps_from flow p.at) nth)

-- a return, where the thread stands
abbrev pub return_refused : Flow → Option Point → Option Refusal
return_refused flow None = Some because.Idle
return_refused flow (Some p) = if at_exit flow (Some p) then None else Some because.NotAtExit

-- a move of a thread, of which there are so many
abbrev pub of_thread : ℕ → ℕ → Option Refusal → Option Refusal
of_thread t threads refused = if nat_lt t threads then refused else Some because.NoThread

-- a move of a run that no race has ended
abbrev pub move_refused : Flow → ℕ → Configuration → Move → Option Refusal
move_refused flow threads c (Start t op args) = of_thread t threads (start_refused flow op.0 args (point_of c t))
move_refused flow threads c (Take t nth addr) =
    of_thread t threads (step_refused flow c t nth addr (point_of c t))
move_refused flow threads c (Return t) = of_thread t threads (return_refused flow (point_of c t))
move_refused flow threads c (Free a) = if a == 0 then Some because.Null else None

-- the cause, where there is no such move
unfoldable pub refusal_of : Flow → Position → Move → Option Refusal
refusal_of flow p move = if p.ended then Some because.Ended else move_refused flow (threads_of p) p.here move

-- a cause is named exactly where a race has ended the run, and where there is no such move, whatever the observer
abbrev pub IsNamedExactly : Flow → Position → Move → Option Refusal → Type 0
IsNamedExactly flow p move cause =
    (o : Observer) → IsOfRun flow o p
    → IsTrue (is_some cause) ↔ ((p.ended ≡ true) ⊎ HasNone flow o (threads_of p) p.here move)
