-- In every configuration of a run each busy thread holds the locals of its operation, and stands at one of its points.
use Rattle.std.proofs.Common.{◌≡◌, ℕ, ◌+◌, ◌<◌, List, [], ◌++◌, Option, Some, None, length, get_or, slice_get, map, replicate, sym, ap, ◌∙◌, subst, arith, length-append}
use Rattle.std.proofs.lemmas.List.{length-map, length-replicate}
use Rattle.plc_lang.specs.declared.syntax.Op.{Op}
use Rattle.plc_lang.specs.Locals.{pointers_of, parameters_of, other_data_of}
use Rattle.plc_lang.specs.Shape.{Shape, shape_of, init_shape, PrimitivesIn}
use Rattle.plc_lang.specs.Fields.{is_pointer_field}
use Rattle.plc_auto.specs.declared.observer.Observer.{Observer}
use Rattle.plc_flow.specs.declared.flow.Step.{Step}
use Rattle.plc_flow.specs.declared.flow.Gate.{Gate}
use Rattle.plc_flow.specs.declared.flow.Flow.{Flow}
use Rattle.plc_moves.specs.declared.words.Move.{Move}
use Rattle.plc_moves.specs.declared.words.Move.TheVariants.{Start, Step as Take, Return, Free}
use Rattle.plc_flow.specs.WellFormed.{FlowFits, IsPointOf}
use Rattle.plc_auto.specs.declared.event.Event.{Event}
use Rattle.plc_mem.specs.State.{State, Locals, null_cell, cut, cut_locals, freed, with_locals, first_state, no_locals, starting}
use Rattle.plc_base.specs.Tables.{put_at}
use Rattle.plc_mem.specs.Fit.{shape}
use Rattle.plc_base.proofs.Tables.{get-put_same, get-map}
use Rattle.plc_flow.specs.declared.points.Point.{Point}
use Rattle.plc_run.specs.Run.{Ending, Fine, Stuck, Raced, Configuration, point_of, Moves, Run, begin, more, beginning, initialised, first_configuration}
use Rattle.plc_flow.specs.Points.{steps_from}
use Rattle.plc_moves.specs.Fit.{ThreadFits}
use Rattle.plc_moves.proofs.Fit.{put_is_new, thread_came, all_idle, idle_again}
use Rattle.plc_run.specs.Fit.{LocalsFit, ConfigurationFits}
use Rattle.plc_run.specs.Ended.{IsOfFlow}
use Rattle.plc_run.specs.Position.{Position, threads_of, IsOfRun}
use Rattle.plc_run.proofs.Busy.{IsBusyAt}
use Rattle.plc_flow.proofs.Gates.{gate_from}
use Rattle.plc_flow.proofs.Leaving.{stay_in_their_gate}
use Rattle.plc_run.proofs.Shapes.{EndsKept, same_shape, execute_keeps}

-- ---- the step that a busy thread takes

-- what it leads to, and that its primitives name what is there
pub record StepFits (flow : Flow) (gate : Gate) (h : Shape) (step : Step) : Type 0 where
  pub leads : IsPointOf gate step.to.0
  pub names : PrimitivesIn h step.prims
  pub short : length step.prims < 65536

pub step_fits : (flow : Flow) → FlowFits flow → (s : State) (t : ℕ) (p : Point) (step : Step) (nth : ℕ) → (b : IsBusyAt flow s t p) → slice_get (steps_from flow p.at) nth ≡ Some step → StepFits flow b.gate (shape s b.locals) step
step_fits flow fits s t p step nth b at =
    let m = stay_in_their_gate flow fits.well p.op b.gate p.at nth step b.opens b.within at in
    let few = fits.well.short m.place step m.there in
    record {
      leads = m.leads;
      names = subst (λ h. PrimitivesIn h step.prims) (sym b.fits) (fits.steps m.place step b.operation m.there (subst (λ i. slice_get flow.file.ops i ≡ Some b.operation) (sym m.of_op) b.named));
      short = omega arith;
    }

-- ---- what fits goes on fitting

same_shape_of : (s new : State) (l : Locals) → new.fields ≡ s.fields → length new.shared ≡ length s.shared → shape new l ≡ shape s l
same_shape_of s new l f h = (let a = ap length f in cc)

-- ---- moves

started_shape : (flow : Flow) (s : State) (o : Op) (args : List ℕ) → length s.shared ≡ length flow.file.shared → length s.fields ≡ length flow.file.fields → length args ≡ parameters_of o → shape s (starting o args) ≡ shape_of flow.file o
started_shape flow s o args h f counted =
    let a = length-replicate (pointers_of o) null_cell in
    let b : length (args ++ replicate (other_data_of o) 0) ≡ parameters_of o + other_data_of o = omega (arith, length-append args (replicate (other_data_of o) 0), length-replicate {A = ℕ} (other_data_of o) 0, counted) in
    cc

-- thread t comes to a point, or becomes idle, with these locals
came : (flow : Flow) (threads : ℕ) (c : Configuration) (t : ℕ) (l : Option Locals) (q : Option Point) → t < threads → ConfigurationFits flow threads c
    → ThreadFits flow (LocalsFit flow c.state) (put_at None c.state.locals t l) t q → ConfigurationFits flow threads (record c { state = with_locals c.state t l; points = put_at None c.points t q })
unfolding with_locals
came flow threads c t l q small k mine = record {
  shared = k.shared;
  fields = k.fields;
  standing = thread_came flow (LocalsFit flow c.state) (LocalsFit flow c.state) threads c.state.locals _ c.points t q small (λ o l fits. fits) (put_is_new t c.state.locals l (omega (arith, small, k.standing.locals))) mine k.standing;
}

start_fits : (flow : Flow) → FlowFits flow → (threads : ℕ) (c : Configuration) (t op : ℕ) (o : Op) (g : Gate) (args : List ℕ) → t < threads → slice_get flow.file.ops op ≡ Some o → slice_get flow.gates op ≡ Some g → length args ≡ parameters_of o → ConfigurationFits flow threads c
    → ConfigurationFits flow threads (record c { state = with_locals c.state t (Some (starting o args)); points = put_at None c.points t (Some (record { op = op; at = g.entry.0 })) })
unfolding with_locals
start_fits flow fits threads c t op o g args small named opens counted k =
    came flow threads c t (Some (starting o args)) (Some (record { op = op; at = g.entry.0 })) small k (record {
      locals = starting o args;
      held = get-put_same None c.state.locals t (Some (starting o args));
      fits = started_shape flow (with_locals c.state t (Some (starting o args))) o args k.shared k.fields counted;
      operation = o;
      named = named;
      gate = g;
      opens = opens;
      within = (gate_from 0 flow.points flow.gates op g fits.well.ranges opens).entry;
    })

return_fits : (flow : Flow) (threads : ℕ) (c : Configuration) (t : ℕ) → t < threads → ConfigurationFits flow threads c → ConfigurationFits flow threads (record c { state = with_locals c.state t None; points = put_at None c.points t None })
unfolding with_locals
return_fits flow threads c t small k = came flow threads c t None None small k (get-put_same None c.state.locals t None)

pub busy_at : (flow : Flow) (threads : ℕ) (c : Configuration) (t : ℕ) (p : Point) → ConfigurationFits flow threads c → point_of c t ≡ Some p → IsBusyAt flow c.state t p
busy_at flow threads c t p k busy = subst (ThreadFits flow (LocalsFit flow c.state) c.state.locals t) busy (k.standing.each t)

take_fits : (flow : Flow) (threads : ℕ) (c : Configuration) (t : ℕ) (p : Point) (to : ℕ) (s : State) (h : List Event) (b : IsBusyAt flow c.state t p) → t < threads → IsPointOf b.gate to → EndsKept t c.state b.locals (Fine s h) → ConfigurationFits flow threads c
    → ConfigurationFits flow threads (record { state = s; history = h; points = put_at None c.points t (Some (record p { at = to })) })
take_fits flow threads c t p to s h b small leads kept k = record {
  shared = kept.1.shared ∙ k.shared;
  fields = ap length kept.1.fields ∙ k.fields;
  standing = thread_came flow (LocalsFit flow c.state) (LocalsFit flow s) threads c.state.locals s.locals c.points t _ small (λ o l fits. same_shape_of c.state s l kept.1.fields kept.1.shared ∙ fits) kept.1.table mine k.standing;
}
  where
    mine : IsBusyAt flow s t (record p { at = to })
    mine = record { operation = b.operation; gate = b.gate; locals = kept.0; named = b.named; opens = b.opens; within = leads; held = kept.1.held; fits = same_shape kept.1 ∙ b.fits }

freed_thread : (flow : Flow) (s : State) (a t : ℕ) (q : Option Point) → ThreadFits flow (LocalsFit flow s) s.locals t q → ThreadFits flow (LocalsFit flow (freed s a)) (freed s a).locals t q
unfolding freed
freed_thread flow s a t None k = get-map (cut_locals a) s.locals t None ∙ ap (cut_locals a) k
freed_thread flow s a t (Some p) k = record {
  operation = k.operation;
  gate = k.gate;
  locals = record { pointers = map (cut a) k.locals.pointers; values = k.locals.values };
  named = k.named;
  opens = k.opens;
  within = k.within;
  held = get-map (cut_locals a) s.locals t None ∙ ap (cut_locals a) k.held;
  fits = (let e = length-map k.locals.pointers (cut a) in let f = length-map s.shared (cut a) in let g = k.fits in cc);
}

free_fits : (flow : Flow) (threads : ℕ) (c : Configuration) (a : ℕ) (h : List Event) → ConfigurationFits flow threads c → ConfigurationFits flow threads (record c { state = freed c.state a; history = h })
unfolding freed
free_fits flow threads c a h k = record {
  shared = length-map c.state.shared (cut a) ∙ k.shared;
  fields = k.fields;
  standing = record {
    locals = length-map c.state.locals (cut_locals a) ∙ k.standing.locals;
    points = k.standing.points;
    each = λ t. freed_thread flow c.state a t (point_of c t) (k.standing.each t);
  };
}

move_fits : (flow : Flow) → FlowFits flow → (o : Observer) (threads : ℕ) (c d : Configuration) (move : Move) → Moves flow o threads c move d → ConfigurationFits flow threads c → ConfigurationFits flow threads d
move_fits flow fits o threads c d (Start t op args) m k = subst (ConfigurationFits flow threads) (sym m.7) (start_fits flow fits threads c t op.0 m.0 m.1 args m.2 m.4 m.5 m.6 k)
move_fits flow fits o threads c d (Take t nth addr) m k =
    let b = busy_at flow threads c t m.0 k m.4.busy in
    let w = step_fits flow fits c.state t m.0 m.1 nth b m.4.leaves_there in
    subst (ConfigurationFits flow threads) (sym m.6) (take_fits flow threads c t m.0 m.1.to.0 m.2 m.3 b m.4.known w.leads (subst (EndsKept t c.state b.locals) m.5 (execute_keeps t c.state b.locals c.history _ 0 m.1.prims b.held w.names)) k)
move_fits flow fits o threads c d (Return t) m k = subst (ConfigurationFits flow threads) (sym m.6) (return_fits flow threads c t m.2 k)
move_fits flow fits o threads c d (Free a) m k = subst (ConfigurationFits flow threads) (sym m.2) (free_fits flow threads c a _ k)

-- ---- where runs begin

-- the memory of a flow, with `init` about to run
ready : Flow → ℕ → State
ready flow threads = with_locals (first_state flow threads) 0 (Some no_locals)

ready_held : (flow : Flow) (threads : ℕ) → get_or (ready flow threads).locals 0 None ≡ Some no_locals
unfolding with_locals ready
ready_held flow threads = get-put_same None (replicate threads None) 0 (Some no_locals)

ready_shape : (flow : Flow) (threads : ℕ) → shape (ready flow threads) no_locals ≡ init_shape flow.file
unfolding with_locals ready
ready_shape flow threads = (let a = length-replicate (length flow.file.shared) null_cell in let b = length-map flow.file.fields is_pointer_field in cc)

begun : (flow : Flow) (threads : ℕ) (s : State) (h : List Event) → 0 < threads → EndsKept 0 (ready flow threads) no_locals (Fine s h) → ConfigurationFits flow threads (record { state = with_locals s 0 None; history = h; points = replicate threads None })
unfolding with_locals ready
begun flow threads s h some kept =
    let idle = idle_again threads no_locals s.locals some kept.1.table in
    record {
      shared = kept.1.shared ∙ length-replicate (length flow.file.shared) null_cell;
      fields = ap length kept.1.fields ∙ length-map flow.file.fields is_pointer_field;
      standing = all_idle flow (LocalsFit flow (with_locals s 0 None)) threads _ idle.0 idle.1;
    }

pub begun_fits : (flow : Flow) → FlowFits flow → (threads : ℕ) → 0 < threads → (c : Configuration) → first_configuration flow threads ≡ Some c → ConfigurationFits flow threads c
unfolding ready
begun_fits flow fits threads some c e =
    go (initialised flow threads) e (execute_keeps 0 (ready flow threads) no_locals [] 1 0 flow.file.init (ready_held flow threads) (subst (λ h. PrimitivesIn h flow.file.init) (sym (ready_shape flow threads)) fits.init))
  where
    go : (end : Ending) → beginning threads end ≡ Some c → EndsKept 0 (ready flow threads) no_locals end → ConfigurationFits flow threads c
    go (Fine s h) is kept =
        let same : record { state = with_locals s 0 None; history = h; points = replicate threads None } ≡ c = cc in
        subst (ConfigurationFits flow threads) same (begun flow threads s h some kept)
    go Stuck is kept = cc
    go (Raced kind k) is kept = cc

pub run_fits : (flow : Flow) → FlowFits flow → (o : Observer) (threads : ℕ) → 0 < threads → (n : ℕ) (c : Configuration) → Run flow o threads n c → ConfigurationFits flow threads c
run_fits flow fits o threads some n c (begin e) = begun_fits flow fits threads some c e
run_fits flow fits o threads some n d (more {n = m} {c = c} run move moved) = move_fits flow fits o threads c d move moved (run_fits flow fits o threads some m c run)

pub is_of_flow : (flow : Flow) (o : Observer) (p : Position) → FlowFits flow → 0 < threads_of p → IsOfRun flow o p → IsOfFlow flow p
is_of_flow flow o p named some run = record {
  named = named;
  fits = run_fits flow named o (threads_of p) some run.moves p.here run.run;
  indexed = run.indexed;
}
