-- How the code says that primitives in order ended, and what it asks before it takes a step, or tries its primitives.
use Rattle.std.specs.Prelude.{◌≡◌, ℕ, ◌<◌, List, length, get_or, Some, None}
use Rattle.plc_lang.specs.declared.syntax.Primitive.{Primitive}
use Rattle.plc_lang.specs.Shape.{PrimitivesIn}
use Rattle.plc_auto.specs.declared.event.Event.{Event}
use Rattle.plc_mem.specs.declared.cell.Outcome.{Outcome}
use Rattle.plc_mem.specs.declared.cell.Outcome.TheVariants.{Next, Blocked, Race}
use Rattle.plc_flow.specs.declared.flow.Step.{Step}
use Rattle.plc_flow.specs.declared.flow.Flow.{Flow}
use Rattle.plc_flow.specs.StepsByPoint.{IsIndexOf, first_points}
use Rattle.plc_flow.specs.WellFormed.{FlowFits}
use Rattle.plc_flow.specs.declared.points.Point.{Point}
use Rattle.plc_mem.specs.State.{State, Locals, with_locals, no_locals}
use Rattle.plc_mem.specs.Fit.{shape}
use Rattle.plc_run.specs.Fit.{ConfigurationFits}
use Rattle.plc_run.specs.Position.{Position, threads_of}
use Rattle.plc_run.specs.declared.execute.Ended.{Ended}
use Rattle.plc_run.specs.declared.execute.Ended.TheVariants as ends
use Rattle.plc_run.specs.Run.{Configuration, Ending, Fine, Stuck, Raced, execute, point_of, recorded}

-- a history with the event of an outcome after it, if there is one
abbrev pub heard : List Event → Outcome → List Event
heard h (Next e) = recorded h e
heard h Blocked = h
heard h (Race kind) = h

-- the answer with the state and the history that were left
abbrev pub ending : Ended → State → List Event → Ending
ending ends.Fine s h = Fine s h
ending ends.Blocked s h = Stuck
ending (ends.Raced kind k) s h = Raced kind k

-- thread 0 took `init` without locals of its own: so it ended, in the state `new` with the events g
pub record InitEnds (s : State) (h : List Event) (init : List Primitive) (e : Ended) (new : State) (g : List Event)
    : Type 0 where
  pub left : Locals
  pub ends : ending e (with_locals new 0 (Some left)) g ≡ execute (with_locals s 0 (Some no_locals)) h 0 1 0 init
  pub kept : new.locals ≡ s.locals

-- thread t stands at the point and holds locals to which the step's primitives fit
pub record IsReady (c : Configuration) (t : ℕ) (p : Point) (step : Step) : Type 0 where
  pub locals : Locals
  pub stands : point_of c t ≡ Some p
  pub held : get_or c.state.locals t None ≡ Some locals
  pub fit : PrimitivesIn (shape c.state locals) step.prims
  pub short : length step.prims < 65536

-- primitives fit this memory and these locals, and there are few of them
pub record MayExecute (s : State) (l : Locals) (ps : List Primitive) : Type 0 where
  pub fit : PrimitivesIn (shape s l) ps
  pub short : length ps < 65536

-- thread t holds locals to which these primitives fit, and there are few of them
pub record MayTry (s : State) (t : ℕ) (ps : List Primitive) : Type 0 where
  pub locals : Locals
  pub held : get_or s.locals t None ≡ Some locals
  pub fit : PrimitivesIn (shape s locals) ps
  pub short : length ps < 65536

-- what the code asks of a position before it looks for the step that a thread may take: the flow names what is there,
-- each busy thread holds the locals of its operation, and the index is that of the flow's steps
pub record IsOfFlow (flow : Flow) (p : Position) : Type 0 where
  pub named : FlowFits flow
  pub fits : ConfigurationFits flow (threads_of p) p.here
  pub indexed : IsIndexOf (first_points flow) p.steps
