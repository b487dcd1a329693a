-- The law of erasure: a run without its frees is a garbage-collected run.
use Rattle.std.specs.Prelude.{◌≡◌, ℕ, true, List, ◌∷◌, ◌++◌, Option, Some, None}
use Rattle.plc_lang.specs.declared.syntax.Var.{Var}
use Rattle.plc_lang.specs.declared.syntax.Primitive.{Primitive}
use Rattle.plc_lang.specs.declared.syntax.Primitive.TheVariants.{Active}
use Rattle.plc_auto.specs.declared.event.Event.{Event}
use Rattle.plc_auto.specs.declared.observer.Observer.{Observer}
use Rattle.plc_flow.specs.declared.flow.Step.{Step}
use Rattle.plc_flow.specs.declared.flow.Flow.{Flow}
use Rattle.plc_moves.specs.declared.words.Move.{Move}
use Rattle.plc_mem.specs.State.{State}
use Rattle.plc_mem.specs.Primitives.{race_of, goes, after}
use Rattle.plc_mem.specs.Outcomes.{address_or_null}
use Rattle.plc_mem.specs.Coherence.{IsCoherent}
use Rattle.plc_flow.specs.declared.points.Point.{Point}
use Rattle.plc_run.specs.Run.{Configuration, Fine, Moves, Run, execute, first_configuration, MayTake}
use Rattle.plc_run.specs.Observed.{IsObserved}
use Rattle.plc_gc.specs.State.{GcState}
use Rattle.plc_gc.specs.Primitives.{goes as gc_goes, after as gc_after}
use Rattle.plc_gc.specs.Run.{GcConfiguration, GcRun, execute as gc_execute}
use Rattle.plc_gc.specs.Run.{first_configuration as gc_first_configuration, Moves as GcMoves}
use Rattle.plc_gc.specs.Claims.{claim_holds, ClaimsHold, AllClaimsHold}
use Rattle.plc_erasure.specs.Trace.{Trace, noted, stepped, traced, first_trace, trace_of, moves_of}
use Rattle.plc_erasure.specs.Erasure.{IsErased, AreErased, IsActive}

-- the garbage-collected configuration to which the same move leads; a free leads nowhere else
pub record Follows (flow : Flow) (threads : ℕ) (trace : Trace) (c : Configuration) (before : GcConfiguration)
    (move : Move) : Type 0 where
  pub after : GcConfiguration
  pub moved : GcMoves flow threads before move after
  pub erased : AreErased trace c after

-- the primitives of a further step up to one that is blocked or a race, whichever comes first
pub record GoesOn (trace : Trace) (t : ℕ) (ps : List Primitive) (s : State) (before : GcState) : Type 0 where
  pub after : GcState
  pub taken : gc_execute before t ps ≡ Some after
  pub erased : IsErased trace s after
  pub coherent : IsCoherent s

-- a run and the garbage-collected run of its moves without the frees, any beginning of a further step, and the
-- variables that such a step claims to be active
pub record IsErasedRun (flow : Flow) (o : Observer) (threads n : ℕ) (c : Configuration)
    (run : Run flow o threads n c) : Type 0 where
  pub collected : GcConfiguration
  pub runs : GcRun flow threads (moves_of flow o threads n c run) collected
  pub erased : AreErased (trace_of flow o threads n c run) c collected
  pub further : (t a : ℕ) (ps : List Primitive) (s : State) (h : List Event)
      → execute c.state c.history t a 0 ps ≡ Fine s h
      → GoesOn (stepped (trace_of flow o threads n c run) a ps) t ps s collected.state
  pub active : (t a : ℕ) (ps qs : List Primitive) (p : Var) (s : State) (h : List Event)
      → execute c.state c.history t a 0 ps ≡ Fine s h → ClaimsHold collected.state t (ps ++ Active p ∷ qs)
      → IsActive s t p

-- where a run begins, by one primitive, what a true claim says of memory, by one move, and over a whole run
pub record ErasureLaw (flow : Flow) (o : Observer) (threads : ℕ) : Type 0 where
  pub begun : (c : Configuration) → first_configuration flow threads ≡ Some c
      → (d : GcConfiguration) × (gc_first_configuration flow threads ≡ Some d) × AreErased (first_trace flow) c d
  pub by_primitive : (trace : Trace) (s : State) (g : GcState) (t a : ℕ) (k : Primitive) → race_of s t k ≡ None
      → goes s t a k ≡ true → IsCoherent s → IsErased trace s g
      → (gc_goes g t k ≡ true)
      × IsErased (record { log = noted trace.log a k; gone = trace.gone }) (after s t a k) (gc_after g t k)
  pub by_claim : (trace : Trace) (s : State) (g : GcState) (t : ℕ) (p : Var) → IsCoherent s → IsErased trace s g
      → claim_holds g t (Active p) ≡ true → IsActive s t p
  pub by_move : (trace : Trace) (c d : Configuration) (before : GcConfiguration) (move : Move)
      (m : Moves flow o threads c move d)
      → IsObserved o threads c.state c.history → AreErased trace c before
      → Follows flow threads (traced flow o threads c d trace move m) d before move
  pub run : (n : ℕ) (c : Configuration) (run : Run flow o threads n c) → IsErasedRun flow o threads n c run

-- whatever a step of a run claims to be active is so in memory, where the claim is reached
abbrev pub ClaimsAreActive : Flow → Observer → ℕ → Type 0
ClaimsAreActive flow o threads = (n : ℕ) (c : Configuration) → Run flow o threads n c
    → (t nth : ℕ) (addr : Option ℕ) (p : Point) (step : Step) → MayTake flow threads c t nth addr p step
    → (ps qs : List Primitive) (v : Var) → step.prims ≡ ps ++ Active v ∷ qs → (s : State) (h : List Event)
    → execute c.state c.history t (address_or_null addr) 0 ps ≡ Fine s h → IsActive s t v

-- so it is where the claims of every garbage-collected run are true
abbrev pub TrueClaimsAreActive : Flow → Observer → ℕ → Type 0
TrueClaimsAreActive flow o threads = AllClaimsHold flow threads → ClaimsAreActive flow o threads
