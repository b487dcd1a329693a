-- What a move leads to, as a function: the code answers by it, and the law beside it says that it is what `Moves` and
-- `Races` say.
use Rattle.std.specs.Prelude.{◌≡◌, ℕ, zero, suc, Bool, true, false, ◌&&◌, ◌==◌, if◌then◌else◌, List, [], ◌∷◌, ◌++◌}
use Rattle.std.specs.Prelude.{length, replicate, Option, Some, None, is_some, Result, Ok, Err, IfOk, OnOk, OnErr}
use Rattle.plc_lang.specs.declared.syntax.Op.{Op}
use Rattle.plc_lang.specs.declared.syntax.Primitive.{Primitive}
use Rattle.plc_auto.specs.declared.event.Event.{Event}
use Rattle.plc_auto.specs.declared.event.Event.TheVariants.{Free as Freed}
use Rattle.plc_auto.specs.declared.observer.Observer.{Observer}
use Rattle.plc_auto.specs.Location.{location, advance}
use Rattle.plc_flow.specs.declared.flow.Step.{Step}
use Rattle.plc_flow.specs.declared.flow.Flow.{Flow}
use Rattle.plc_flow.specs.StepsByPoint.{IsIndexOf, first_points}
use Rattle.plc_moves.specs.declared.words.Move.{Move}
use Rattle.plc_moves.specs.declared.words.Move.TheVariants.{Start, Step as Take, Return, Free}
use Rattle.plc_mem.specs.declared.cell.RaceKind.{RaceKind}
use Rattle.plc_mem.specs.declared.undo.Undo.{Undo}
use Rattle.plc_mem.specs.Undoing.{TakesBack}
use Rattle.plc_mem.specs.State.{State, Locals, with_locals, freed, starting}
use Rattle.plc_base.specs.Tables.{put_at}
use Rattle.plc_base.specs.declared.memory.NoMemory.{NoMemory}
use Rattle.plc_flow.specs.declared.points.Point.{Point}
use Rattle.plc_run.specs.declared.execute.Ended.{Ended}
use Rattle.plc_run.specs.declared.execute.Ended.TheVariants as ends
use Rattle.plc_run.specs.declared.moved.Moved.{Moved}
use Rattle.plc_run.specs.declared.moved.Moved.TheVariants as moved
use Rattle.plc_run.specs.Run.{Ending, Fine, Stuck, Raced, Configuration, execute, point_of, taken}
use Rattle.plc_run.specs.Ended.{ending}
use Rattle.plc_run.specs.Position.{Position, threads_of, Follows}
use Rattle.plc_flow.specs.Points.{names_rightly}
use Rattle.plc_moves.specs.Standing.{begun, step_of, at_exit}

-- a configuration, none, a free that the observer forbids, or a race
pub data Reached : Type 0 where
  Goes : Configuration → Reached
  Blocks : Reached
  Forbids : ℕ → Reached
  Breaks : RaceKind → ℕ → Reached

-- thread t begins an operation, if there is one that it may begin
abbrev pub started : Configuration → ℕ → List ℕ → Option (Op × Point) → Reached
started c t args None = Blocks
started c t args (Some b) = Goes (record c {
  state = with_locals c.state t (Some (starting b.0 args));
  points = put_at None c.points t (Some b.1);
})

-- a start
abbrev pub start_from : Flow → Configuration → ℕ → ℕ → List ℕ → Reached
start_from flow c t op args = started c t args (begun flow c.points t op args)

-- what a step leads to by how its primitives end
abbrev pub ended_as : Configuration → ℕ → Point → ℕ → Ending → Reached
ended_as c t p to (Fine s h) =
    Goes (record { state = s; history = h; points = put_at None c.points t (Some (record p { at = to })) })
ended_as c t p to Stuck = Blocks
ended_as c t p to (Raced kind k) = Breaks kind k

-- what a step that leaves this point leads to
abbrev pub step_leads : Configuration → ℕ → Point → Step → Option ℕ → Reached
step_leads c t p step addr = ended_as c t p step.to.0 (taken c t addr step)

-- what a step to this point leads to, from the configuration that its primitives left
abbrev pub concluded : Configuration → ℕ → Point → Ended → Reached
concluded c t to ends.Fine = Goes (record c { points = put_at None c.points t (Some to) })
concluded c t to ends.Blocked = Blocks
concluded c t to (ends.Raced kind k) = Breaks kind k

-- thread t takes a step, if there is one that it may take, by a move that names an address or none
abbrev pub take_step : Configuration → ℕ → Option ℕ → Option (Point × Step) → Reached
take_step c t addr None = Blocks
take_step c t addr (Some s) =
    if names_rightly addr s.1 then step_leads c t s.0 s.1 addr else Blocks

-- a step
abbrev pub step_from : Flow → Configuration → ℕ → ℕ → Option ℕ → Option Point → Reached
step_from flow c t nth addr q = take_step c t addr (step_of flow nth q)

-- a return
abbrev pub return_from : Flow → Configuration → ℕ → Option Point → Reached
return_from flow c t q =
    if at_exit flow q
    then Goes (record c { state = with_locals c.state t None; points = put_at None c.points t None })
    else Blocks

-- for no thread below n does a free of the address lead to `bad` from where the thread stands for it
abbrev pub may_free : Observer → (ℕ → Option ℕ) → ℕ → ℕ → Bool
may_free o at a zero = true
may_free o at a (suc n) = may_free o at a n && is_some (advance o n a (Freed a) (at n))

-- a free
abbrev pub free_of : Observer → Configuration → ℕ → Reached
free_of o c a =
    if a == 0 then Blocks else
    if may_free o (λ t. location o c.history t a) a (length c.points)
    then Goes (record c { state = freed c.state a; history = c.history ++ Freed a ∷ [] })
    else Forbids a

-- each kind of move
unfoldable pub reach : Flow → Observer → Configuration → Move → Reached
reach flow o c (Start t op args) = start_from flow c t op.0 args
reach flow o c (Take t nth addr) = step_from flow c t nth addr (point_of c t)
reach flow o c (Return t) = return_from flow c t (point_of c t)
reach flow o c (Free a) = free_of o c a

-- the answer by what the move leads to
abbrev pub answer : Reached → Moved
answer (Goes d) = moved.Done
answer Blocks = moved.Blocked
answer (Forbids a) = moved.Forbidden a
answer (Breaks kind k) = moved.Race kind k

-- the position after it, with the same index; where a move goes on so do the locations, which `Follows` says
abbrev pub Reaches : Reached → Position → Position → Type 0
Reaches (Goes d) p q = (q.here ≡ d) × (q.ended ≡ p.ended) × (q.steps ≡ p.steps)
Reaches Blocks p q = q ≡ p
Reaches (Forbids a) p q = q ≡ p
Reaches (Breaks kind k) p q = q ≡ record p { ended = true }

-- where the locations followed the history by some observer, they follow it still
abbrev pub StillFollows : Position → Position → Type 0
StillFollows p q = (o : Observer) → Follows o p → Follows o q

-- what the code answers where a step leads to this, and the position after it, whose locations follow as before; where
-- memory runs out the position is as it was
pub record Comes (r : Reached) (p : Position) (result : Result Moved NoMemory) (q : Position)
    : Type 0 where
  pub says : IfOk result (λ m. m ≡ answer r)
  pub after : OnOk result (Reaches r p q)
  pub follows : StillFollows p q
  pub err : OnErr result (q ≡ p)

-- a position with this state and history in which every thread is idle and no race has ended the run, with the index
-- of the flow's steps; the locations follow the history
pub record IsIdle (flow : Flow) (o : Observer) (threads : ℕ) (s : State) (h : List Event) (p : Position) : Type 0 where
  pub here : p.here ≡ record { state = s; history = h; points = replicate threads None }
  pub live : p.ended ≡ false
  pub follows : Follows o p
  pub indexed : IsIndexOf (first_points flow) p.steps

-- events were put after the history, and nothing else but the locations is new
pub record Hears (events : List Event) (p q : Position) : Type 0 where
  pub here : q.here ≡ record p.here { history = p.here.history ++ events }
  pub ended : q.ended ≡ p.ended
  pub steps : q.steps ≡ p.steps

-- a move of which the observer hears nothing
pub record IsUnheard (p q : Position) : Type 0 where
  pub threads : threads_of q ≡ threads_of p
  pub history : q.here.history ≡ p.here.history
  pub located : q.located ≡ p.located

-- ---- the primitives of a step in code

-- all primitives succeeded
abbrev pub is_fine : Ended → Bool
is_fine ends.Fine = true
is_fine ends.Blocked = false
is_fine (ends.Raced kind k) = false

-- all primitives succeeded, and memory didn't run out
abbrev pub came_about : Result Ended NoMemory → Bool
came_about (Ok e) = is_fine e
came_about (Err x) = false

-- thread t tried primitives with these locals: how they ended, the position and the locals that they left, and what
-- leads back from there; unless all of them come about the observer hears nothing
pub record Tries (t a : ℕ) (ps : List Primitive) (p : Position) (l : Locals) (r : Result Ended NoMemory) (q : Position)
    (m : Locals) (undos : List Undo) : Type 0 where
  pub takes : TakesBack t p.here.state l undos q.here.state m
  pub ends : IfOk r (λ e. ending e (with_locals q.here.state t (Some m)) q.here.history
      ≡ execute (with_locals p.here.state t (Some l)) p.here.history t a 0 ps)
  pub points : q.here.points ≡ p.here.points
  pub ended : q.ended ≡ p.ended
  pub steps : q.steps ≡ p.steps
  pub unheard : came_about r ≡ false → (q.here.history ≡ p.here.history) × (q.located ≡ p.located)

-- thread t took primitives with these locals: how they ended, and the position and the locals after it, which are
-- those of before unless all of them succeeded
pub record ActsWith (t a : ℕ) (ps : List Primitive) (p : Position) (l : Locals) (e : Ended) (q : Position) (m : Locals)
    : Type 0 where
  pub ends : ending e (with_locals q.here.state t (Some m)) q.here.history
      ≡ execute (with_locals p.here.state t (Some l)) p.here.history t a 0 ps
  pub points : q.here.points ≡ p.here.points
  pub ended : q.ended ≡ p.ended
  pub steps : q.steps ≡ p.steps
  pub unchanged : is_fine e ≡ false → (q ≡ p) × (m ≡ l)

-- thread t took primitives with the locals that the position holds for it: how they ended, and the position after it
pub record Acts (t a : ℕ) (ps : List Primitive) (p : Position) (e : Ended) (q : Position) : Type 0 where
  pub ends : ending e q.here.state q.here.history ≡ execute p.here.state p.here.history t a 0 ps
  pub points : q.here.points ≡ p.here.points
  pub ended : q.ended ≡ p.ended
  pub steps : q.steps ≡ p.steps
  pub unchanged : is_fine e ≡ false → q ≡ p
