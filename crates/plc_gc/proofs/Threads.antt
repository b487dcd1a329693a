-- In every configuration of a garbage-collected run each busy thread holds the locals of its operation, and stands at one of its points.
use Rattle.std.proofs.Common.{◌≡◌, ℕ, ◌<◌, List, [], ◌∷◌, Option, Some, None, length, get_or, slice_get, replicate, refl, sym, ap, ◌∙◌, subst, arith, length-append}
use Rattle.std.proofs.lemmas.List.{length-replicate}
use Rattle.std.proofs.lemmas.Option.{slice_get_within}
use Rattle.plc_base.specs.Tables.{put_at}
use Rattle.plc_base.proofs.Tables.{get-put_same}
use Rattle.plc_lang.specs.declared.syntax.Op.{Op}
use Rattle.plc_lang.specs.declared.syntax.File.{File}
use Rattle.plc_lang.specs.declared.syntax.Primitive.{Primitive}
use Rattle.plc_lang.specs.declared.syntax.Primitive.TheVariants.{Ghost}
use Rattle.plc_lang.specs.Locals.{pointers_of, parameters_of, other_data_of}
use Rattle.plc_lang.specs.Shape.{Shape, shape_of, init_shape, PrimitivesIn}
use Rattle.plc_lang.specs.WellSorted.{IsWellSorted, AreWellSorted}
use Rattle.plc_flow.specs.declared.flow.Step.{Step}
use Rattle.plc_flow.specs.declared.flow.Gate.{Gate}
use Rattle.plc_flow.specs.declared.flow.Flow.{Flow}
use Rattle.plc_moves.specs.declared.words.Move.{Move}
use Rattle.plc_moves.specs.declared.words.Move.TheVariants.{Start, Step as Take, Return, Free}
use Rattle.plc_flow.specs.declared.points.Point.{Point}
use Rattle.plc_flow.specs.Points.{steps_from}
use Rattle.plc_flow.specs.WellFormed.{FlowFits, IsPointOf}
use Rattle.plc_flow.specs.WellSorted.{FlowIsWellSorted}
use Rattle.plc_flow.proofs.Gates.{gate_from}
use Rattle.plc_flow.proofs.Leaving.{stay_in_their_gate}
use Rattle.plc_gc.specs.State.{GcState, Locals, null_pointer, with_locals, first_state, no_locals, starting}
use Rattle.plc_gc.specs.declared.slot.Pointer.{Pointer}
use Rattle.plc_gc.specs.Run.{GcConfiguration, point_of, Moves, GcRun, begin, more, beginning, initialised, first_configuration}
use Rattle.plc_gc.specs.Fit.{Frame, frame, WriteIn, FrameHasAll}
use Rattle.plc_moves.specs.Fit.{ThreadFits}
use Rattle.plc_moves.proofs.Fit.{put_is_new, thread_came, all_idle, idle_again}
use Rattle.plc_gc.specs.Threads.{LocalsFit, GcConfigurationFits}
use Rattle.plc_gc.proofs.Busy.{IsBusyAt}
use Rattle.plc_gc.proofs.Frames.{Keeps, frame_held, execute_keeps}

-- ---- the step that a busy thread takes

-- what a flow's operation may name
abbrev frame_of : File → Shape → Frame
frame_of file h = record { shape = h; ghosts = length file.ghosts }

write_in : (file : File) (k : Primitive) → IsWellSorted file k → WriteIn (length file.ghosts) k
write_in file (Ghost p h v) sorted = slice_get_within file.ghosts h sorted.0 sorted.1
write_in file k sorted = tt

has_all : (file : File) (h : Shape) (ps : List Primitive) → PrimitivesIn h ps → AreWellSorted file ps → FrameHasAll (frame_of file h) ps
has_all file h [] fit sorted = tt
has_all file h (p ∷ ps) fit sorted = ((fit.0, write_in file p sorted.0), has_all file h ps fit.1 sorted.1)

busy_frame : (flow : Flow) (threads : ℕ) (c : GcConfiguration) (t : ℕ) (p : Point) → GcConfigurationFits flow threads c → (b : IsBusyAt flow c.state t p) → frame c.state t ≡ frame_of flow.file (shape_of flow.file b.operation)
busy_frame flow threads c t p k b =
    let own = frame_held c.state t b.locals b.held in
    let s = k.shared in
    let f = ap length k.fields in
    let g = k.ghosts in
    let x = b.fits.pointers in
    let y = b.fits.values in
    own ∙ cc

-- what it leads to, and that its primitives name what is there
pub record StepFits (g : GcState) (gate : Gate) (t : ℕ) (step : Step) : Type 0 where
  pub leads : IsPointOf gate step.to.0
  pub names : FrameHasAll (frame g t) step.prims

pub step_fits : (flow : Flow) → FlowFits flow → FlowIsWellSorted flow → (threads : ℕ) (c : GcConfiguration) (t : ℕ) (p : Point) (step : Step) (nth : ℕ) → GcConfigurationFits flow threads c → (b : IsBusyAt flow c.state t p) → slice_get (steps_from flow p.at) nth ≡ Some step → StepFits c.state b.gate t step
step_fits flow fits sorted threads c t p step nth k b at =
    let m = stay_in_their_gate flow fits.well p.op b.gate p.at nth step b.opens b.within at in
    let names = fits.steps m.place step b.operation m.there (subst (λ i. slice_get flow.file.ops i ≡ Some b.operation) (sym m.of_op) b.named) in
    record {
      leads = m.leads;
      names = subst (λ f. FrameHasAll f step.prims) (sym (busy_frame flow threads c t p k b)) (has_all flow.file (shape_of flow.file b.operation) step.prims names (sorted.steps m.place step m.there).each);
    }

-- ---- moves

-- thread t comes to a point, or becomes idle, with these locals
came : (flow : Flow) (threads : ℕ) (c : GcConfiguration) (t : ℕ) (l : Option Locals) (q : Option Point) → t < threads → GcConfigurationFits flow threads c
    → ThreadFits flow LocalsFit (put_at None c.state.locals t l) t q → GcConfigurationFits flow threads (record { state = with_locals c.state t l; points = put_at None c.points t q })
unfolding with_locals
came flow threads c t l q small k mine = record {
  shared = k.shared;
  fields = k.fields;
  ghosts = k.ghosts;
  standing = thread_came flow LocalsFit LocalsFit threads c.state.locals _ c.points t q small (λ o l fits. fits) (put_is_new t c.state.locals l (omega (arith, small, k.standing.locals))) mine k.standing;
}

start_fits : (flow : Flow) → FlowFits flow → (threads : ℕ) (c : GcConfiguration) (t op : ℕ) (o : Op) (g : Gate) (args : List ℕ) → t < threads → slice_get flow.file.ops op ≡ Some o → slice_get flow.gates op ≡ Some g → length args ≡ parameters_of o → GcConfigurationFits flow threads c
    → GcConfigurationFits flow threads (record { state = with_locals c.state t (Some (starting o args)); points = put_at None c.points t (Some (record { op = op; at = g.entry.0 })) })
unfolding with_locals
start_fits flow fits threads c t op o g args small named opens counted k =
    came flow threads c t (Some (starting o args)) (Some (record { op = op; at = g.entry.0 })) small k (record {
      operation = o;
      gate = g;
      locals = starting o args;
      named = named;
      opens = opens;
      within = (gate_from 0 flow.points flow.gates op g fits.well.ranges opens).entry;
      held = get-put_same None c.state.locals t (Some (starting o args));
      fits = record {
        declared = refl;
        pointers = length-replicate {A = Pointer} (pointers_of o) null_pointer;
        values = omega (arith, length-append args (replicate (other_data_of o) 0), length-replicate {A = ℕ} (other_data_of o) 0, counted);
      };
    })

return_fits : (flow : Flow) (threads : ℕ) (c : GcConfiguration) (t : ℕ) → t < threads → GcConfigurationFits flow threads c → GcConfigurationFits flow threads (record { state = with_locals c.state t None; points = put_at None c.points t None })
unfolding with_locals
return_fits flow threads c t small k = came flow threads c t None None small k (get-put_same None c.state.locals t None)

pub busy_at : (flow : Flow) (threads : ℕ) (c : GcConfiguration) (t : ℕ) (p : Point) → GcConfigurationFits flow threads c → point_of c t ≡ Some p → IsBusyAt flow c.state t p
busy_at flow threads c t p k busy = subst (ThreadFits flow LocalsFit c.state.locals t) busy (k.standing.each t)

take_fits : (flow : Flow) (threads : ℕ) (c : GcConfiguration) (t : ℕ) (p : Point) (to : ℕ) (new : GcState) (b : IsBusyAt flow c.state t p) → t < threads → IsPointOf b.gate to → Keeps t c.state b.locals new → GcConfigurationFits flow threads c
    → GcConfigurationFits flow threads (record { state = new; points = put_at None c.points t (Some (record p { at = to })) })
take_fits flow threads c t p to new b small leads kept k = record {
  shared = kept.1.shared ∙ k.shared;
  fields = kept.1.fields ∙ k.fields;
  ghosts = kept.1.ghosts ∙ k.ghosts;
  standing = thread_came flow LocalsFit LocalsFit threads c.state.locals new.locals c.points t _ small (λ o l fits. fits) (record { many = kept.1.threads; others = kept.1.others }) mine k.standing;
}
  where
    mine : IsBusyAt flow new t (record p { at = to })
    mine = record { operation = b.operation; gate = b.gate; locals = kept.0; named = b.named; opens = b.opens; within = leads; held = kept.1.held; fits = record { declared = kept.1.declared ∙ b.fits.declared; pointers = kept.1.pointers ∙ b.fits.pointers; values = kept.1.values ∙ b.fits.values } }

move_fits : (flow : Flow) → FlowFits flow → FlowIsWellSorted flow → (threads : ℕ) (c d : GcConfiguration) (move : Move) → Moves flow threads c move d → GcConfigurationFits flow threads c → GcConfigurationFits flow threads d
move_fits flow fits sorted threads c d (Start t op args) m k = subst (GcConfigurationFits flow threads) (sym m.7) (start_fits flow fits threads c t op.0 m.0 m.1 args m.2 m.4 m.5 m.6 k)
move_fits flow fits sorted threads c d (Take t nth addr) m k =
    let b = busy_at flow threads c t m.0 k m.3.busy in
    let w = step_fits flow fits sorted threads c t m.0 m.1 nth k b m.3.leaves_there in
    subst (GcConfigurationFits flow threads) (sym m.5) (take_fits flow threads c t m.0 m.1.to.0 m.2 b m.3.known w.leads (execute_keeps t c.state m.2 b.locals m.1.prims b.held w.names m.4) k)
move_fits flow fits sorted threads c d (Return t) m k = subst (GcConfigurationFits flow threads) (sym m.6) (return_fits flow threads c t m.2 k)
move_fits flow fits sorted threads c d (Free a) m k = subst (GcConfigurationFits flow threads) (sym m) k

-- ---- where runs begin

-- the state of a flow, with `init` about to run
unfoldable pub ready : Flow → ℕ → GcState
ready flow threads = with_locals (first_state flow threads) 0 (Some no_locals)

pub ready_held : (flow : Flow) (threads : ℕ) → get_or (ready flow threads).locals 0 None ≡ Some no_locals
unfolding with_locals ready
ready_held flow threads = get-put_same None (replicate threads None) 0 (Some no_locals)

pub init_names : (flow : Flow) → FlowFits flow → FlowIsWellSorted flow → (threads : ℕ) → FrameHasAll (frame (ready flow threads) 0) flow.file.init
unfolding with_locals ready
init_names flow fits sorted threads =
    let own = frame_held (with_locals (first_state flow threads) 0 (Some no_locals)) 0 no_locals (get-put_same None (replicate threads None) 0 (Some no_locals)) in
    let many = length-replicate {A = Pointer} (length flow.file.shared) null_pointer in
    let same : frame (with_locals (first_state flow threads) 0 (Some no_locals)) 0 ≡ frame_of flow.file (init_shape flow.file) = own ∙ cc in
    subst (λ f. FrameHasAll f flow.file.init) (sym same) (has_all flow.file (init_shape flow.file) flow.file.init fits.init sorted.file.init.each)

begun : (flow : Flow) (threads : ℕ) (g : GcState) → 0 < threads → Keeps 0 (ready flow threads) no_locals g → GcConfigurationFits flow threads (record { state = with_locals g 0 None; points = replicate threads None })
unfolding with_locals ready
begun flow threads g some kept =
    let idle = idle_again threads no_locals g.locals some (record { many = kept.1.threads; others = kept.1.others }) in
    record {
      shared = kept.1.shared ∙ length-replicate {A = Pointer} (length flow.file.shared) null_pointer;
      fields = kept.1.fields;
      ghosts = kept.1.ghosts;
      standing = all_idle flow LocalsFit threads _ idle.0 idle.1;
    }

pub begun_fits : (flow : Flow) → FlowFits flow → FlowIsWellSorted flow → (threads : ℕ) → 0 < threads → (c : GcConfiguration) → first_configuration flow threads ≡ Some c → GcConfigurationFits flow threads c
unfolding ready
begun_fits flow fits sorted threads some c e = go (initialised flow threads) refl e
  where
    go : (end : Option GcState) → initialised flow threads ≡ end → beginning threads end ≡ Some c → GcConfigurationFits flow threads c
    go (Some g) is e =
        let same : record { state = with_locals g 0 None; points = replicate threads None } ≡ c = cc in
        subst (GcConfigurationFits flow threads) same (begun flow threads g some (execute_keeps 0 (ready flow threads) g no_locals flow.file.init (ready_held flow threads) (init_names flow fits sorted threads) is))
    go None is e = cc

pub run_fits : (flow : Flow) → FlowFits flow → FlowIsWellSorted flow → (threads : ℕ) → 0 < threads → (moves : List Move) (c : GcConfiguration) → GcRun flow threads moves c → GcConfigurationFits flow threads c
run_fits flow fits sorted threads some moves c (begin e) = begun_fits flow fits sorted threads some c e
run_fits flow fits sorted threads some moves d (more {moves = ms} {c = c} run move moved) = move_fits flow fits sorted threads c d move moved (run_fits flow fits sorted threads some ms c run)
