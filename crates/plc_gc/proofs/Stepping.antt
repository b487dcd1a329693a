-- What the code's parts of a move make together.
use Rattle.std.proofs.Common.{Result, Ok, Err, IfOk, OnOk, OnErr, ◌≡◌, ℕ, ◌<◌, Bool, true, false, List, [], ◌++◌, ◌∷◌, Option, Some, None, length, replicate, refl, sym, ap, ◌∙◌, subst, arith}
use Rattle.std.proofs.lemmas.List.{length-replicate}
use Rattle.plc_base.specs.declared.ids.OpId.{OpId}
use Rattle.plc_base.specs.declared.memory.NoMemory.{NoMemory}
use Rattle.plc_flow.specs.declared.flow.Step.{Step}
use Rattle.plc_flow.specs.declared.flow.Flow.{Flow}
use Rattle.plc_moves.specs.declared.words.Move.{Move}
use Rattle.plc_moves.specs.declared.words.Move.TheVariants.{Start, Step as Take, Return, Free}
use Rattle.plc_flow.specs.declared.points.Point.{Point}
use Rattle.plc_flow.specs.WellFormed.{FlowFits}
use Rattle.plc_flow.specs.WellSorted.{FlowIsWellSorted}
use Rattle.plc_gc.specs.declared.config.GcMoved.{GcMoved}
use Rattle.plc_gc.specs.State.{GcState, Locals, first_state, no_locals, with_locals}
use Rattle.plc_gc.specs.Run.{GcConfiguration, point_of, turn, Moves, GcRun, begin, more, beginning, initialised, first_configuration}
use Rattle.plc_gc.specs.Fit.{IsReady}
use Rattle.plc_gc.specs.Threads.{GcConfigurationFits}
use Rattle.plc_gc.specs.Reach.{start_from, step_from, return_from, reach, reached, answer}
use Rattle.plc_gc.specs.Position.{threads_of, IsOfRun, Answers}
use Rattle.plc_base.proofs.Tables.{length_put}
use Rattle.plc_moves.proofs.Moves.{Takes}
use Rattle.plc_gc.proofs.Ranges.{ranged_run, ranged_given, ranged_first}
use Rattle.plc_gc.proofs.Threads.{ready, ready_held, init_names, run_fits, busy_at, step_fits}
use Rattle.plc_gc.proofs.Frames.{execute_keeps}
use Rattle.plc_gc.proofs.Reaching.{LeadsTo, reach_leads}

-- ---- what a configuration of a run has

pub own_fits : (flow : Flow) → FlowFits flow → FlowIsWellSorted flow → (c : GcConfiguration) → 0 < length c.points → IsOfRun flow c → GcConfigurationFits flow (length c.points) c
own_fits flow fits sorted c some run = run_fits flow fits sorted (length c.points) some run.0 c run.1

pub room : (flow : Flow) → FlowFits flow → FlowIsWellSorted flow → (c : GcConfiguration) (t : ℕ) → 0 < length c.points → IsOfRun flow c → t < length c.points → t < length c.state.locals
room flow fits sorted c t some run small = let k = own_fits flow fits sorted c some run in omega (arith, small, k.standing.locals)

pub is_ready : (flow : Flow) → FlowFits flow → FlowIsWellSorted flow → (c : GcConfiguration) (t nth : ℕ) (p : Point) (step : Step) → (0 < length c.points) × (length c.points < 4294967296) → IsOfRun flow c → Takes flow c.points t nth p step → IsReady c.state t step.prims
is_ready flow fits sorted c t nth p step many run takes =
    let k = own_fits flow fits sorted c many.0 run in
    let b = busy_at flow (length c.points) c t p k takes.busy in
    let f = step_fits flow fits sorted (length c.points) c t p step nth k b takes.leaves_there in
    let small = takes.known in
    record { small = omega (arith, small, many.1); held = (b.locals, b.held); there = f.names; ranges = ranged_run flow (length c.points) run.0 c run.1 }

-- ---- where runs begin

pub init_ready : (flow : Flow) → FlowFits flow → FlowIsWellSorted flow → (threads : ℕ) → IsReady (with_locals (first_state flow threads) 0 (Some no_locals)) 0 flow.file.init
unfolding ready
init_ready flow fits sorted threads = record {
  small = omega arith;
  held = (no_locals, ready_held flow threads);
  there = init_names flow fits sorted threads;
  ranges = ranged_given (first_state flow threads) 0 (Some no_locals) (λ v. refl) (ranged_first flow threads);
}

pub went : (b : Bool) (new : GcState) (end : Option GcState) → b ≡ true → turn b (Some new) ≡ end → end ≡ Some new
went true new end e same = sym same
went false new end e same = cc

pub stopped : (b : Bool) (new : GcState) (end : Option GcState) → b ≡ false → turn b (Some new) ≡ end → end ≡ None
stopped true new end e same = cc
stopped false new end e same = sym same

pub init_room : (flow : Flow) → FlowFits flow → FlowIsWellSorted flow → (threads : ℕ) → 0 < threads → (new : GcState) → initialised flow threads ≡ Some new → 0 < length new.locals
unfolding ready with_locals
init_room flow fits sorted threads some new e =
    let kept = execute_keeps 0 (ready flow threads) new no_locals flow.file.init (ready_held flow threads) (init_names flow fits sorted threads) e in
    let idle = length-replicate {A = Option Locals} threads None in
    let all = length_put None (replicate threads None) 0 (Some no_locals) (omega (arith, idle, some)) in
    let many = kept.1.threads in
    omega (arith, many, all, idle, some)

begun_threads : (threads : ℕ) (end : Option GcState) (c : GcConfiguration) → beginning threads end ≡ Some c → length c.points ≡ threads
begun_threads threads (Some g) c e = (let same : replicate threads None ≡ c.points = cc in sym (ap length same) ∙ length-replicate threads None)
begun_threads threads None c e = cc

pub begun_run : (flow : Flow) (threads : ℕ) (c : GcConfiguration) → first_configuration flow threads ≡ Some c → IsOfRun flow c × (threads_of c ≡ threads)
begun_run flow threads c e =
    let many = begun_threads threads (initialised flow threads) c e in
    (([], subst (λ n. GcRun flow n [] c) (sym many) (begin e)), many)

-- ---- moves

move_threads : (flow : Flow) (c d : GcConfiguration) (move : Move) → Moves flow (length c.points) c move d → length d.points ≡ length c.points
move_threads flow c d (Start t op args) m = ap (λ (x : GcConfiguration). length x.points) m.7 ∙ length_put None c.points t _ m.2
move_threads flow c d (Take t nth addr) m = ap (λ (x : GcConfiguration). length x.points) m.5 ∙ length_put None c.points t _ m.3.known
move_threads flow c d (Return t) m = ap (λ (x : GcConfiguration). length x.points) m.6 ∙ length_put None c.points t _ m.2
move_threads flow c d (Free a) m = ap (λ (x : GcConfiguration). length x.points) m

answers_so : (flow : Flow) (c : GcConfiguration) (move : Move) (r : Option GcConfiguration) → LeadsTo flow (threads_of c) c move r → Answers flow c move (answer r) (reached r c)
answers_so flow c move (Some d) leads = leads
answers_so flow c move None leads = (leads, refl)

run_so : (flow : Flow) (c : GcConfiguration) (move : Move) (r : Option GcConfiguration) → IsOfRun flow c → LeadsTo flow (threads_of c) c move r → IsOfRun flow (reached r c)
run_so flow c move (Some d) run leads = (run.0 ++ move ∷ [], subst (λ n. GcRun flow n (run.0 ++ move ∷ []) d) (sym (move_threads flow c d move leads)) (more run.1 move leads))
run_so flow c move None run leads = run

pub step_answers : (flow : Flow) (c d : GcConfiguration) (move : Move) (r : Result GcMoved NoMemory) → IfOk r (λ m. m ≡ answer (reach flow c move)) → OnOk r (d ≡ reached (reach flow c move) c) → IfOk r (λ m. Answers flow c move m d)
step_answers flow c d move (Ok m) e f = rw (e, f) (answers_so flow c move (reach flow c move) (reach_leads flow c move))
step_answers flow c d move (Err x) e f = tt

pub step_run : (flow : Flow) (c d : GcConfiguration) (move : Move) (r : Result GcMoved NoMemory) → IsOfRun flow c → OnOk r (d ≡ reached (reach flow c move) c) → OnErr r (d ≡ c) → IsOfRun flow d
step_run flow c d move (Ok m) run f g = rw f (run_so flow c move (reach flow c move) run (reach_leads flow c move))
step_run flow c d move (Err x) run f g = subst (IsOfRun flow) (sym g) run

-- ---- the kinds of moves

pub reach_start : (flow : Flow) (c : GcConfiguration) (t : ℕ) (op : OpId) (args : List ℕ) → reach flow c (Start t op args) ≡ start_from flow c t op.0 args
unfolding reach
reach_start flow c t op args = refl

pub reach_take : (flow : Flow) (c : GcConfiguration) (t nth : ℕ) (addr : Option ℕ) → reach flow c (Take t nth addr) ≡ step_from flow c t nth (point_of c t)
unfolding reach
reach_take flow c t nth addr = refl

pub reach_return : (flow : Flow) (c : GcConfiguration) (t : ℕ) → reach flow c (Return t) ≡ return_from flow c t (point_of c t)
unfolding reach
reach_return flow c t = refl

pub reach_free : (flow : Flow) (c : GcConfiguration) (a : ℕ) → reach flow c (Free a) ≡ Some c
unfolding reach
reach_free flow c a = refl

-- what holds of every value holds of that of an answer
pub of_any : {A E : Type 0} (r : Result A E) (P : A → Type 0) → ((x : A) → P x) → IfOk r P
of_any (Ok x) P f = f x
of_any (Err e) P f = tt
