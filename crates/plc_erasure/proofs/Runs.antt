-- Erasure by a step, by a move, and over a run.
use Rattle.std.proofs.Common.{◌≡◌, ℕ, ◌+◌, ◌<◌, Bool, true, false, List, [], ◌∷◌, Option, Some, None, get_or, replicate, refl, sym, ap, ◌∙◌, subst}
use Rattle.plc_lang.specs.declared.syntax.Primitive.{Primitive}
use Rattle.plc_lang.specs.declared.syntax.Primitive.TheVariants.{Active}
use Rattle.plc_auto.specs.declared.event.Event.{Event}
use Rattle.plc_auto.specs.declared.observer.Observer.{Observer}
use Rattle.plc_auto.specs.Table.{is_well_formed}
use Rattle.plc_flow.specs.declared.flow.Flow.{Flow}
use Rattle.plc_moves.specs.declared.words.Move.{Move}
use Rattle.plc_moves.specs.declared.words.Move.TheVariants.{Start, Step as Take, Return, Free}
use Rattle.plc_mem.specs.declared.cell.RaceKind.{RaceKind}
use Rattle.plc_base.specs.Tables.{put_at}
use Rattle.plc_mem.specs.State.{State, with_locals, first_state, no_locals}
use Rattle.plc_mem.specs.Primitives.{race_of, goes, after, event_of}
use Rattle.plc_mem.specs.Outcomes.{address_or_null}
use Rattle.plc_mem.specs.Coherence.{IsCoherent}
use Rattle.plc_mem.proofs.Coherence.{coherence}
use Rattle.plc_flow.specs.declared.points.Point.{Point}
use Rattle.plc_run.specs.Run.{Ending, Fine, Stuck, Raced, turn, recorded, execute, Configuration, Moves, Run, begin, more, beginning, initialised, first_configuration}
use Rattle.plc_run.specs.Observed.{IsObserved}
use Rattle.plc_run.proofs.Observed.{observed}
use Rattle.plc_gc.specs.State.{GcState, with_locals as gc_with_locals, first_state as gc_first_state, no_locals as gc_no_locals, starting as gc_starting}
use Rattle.plc_gc.specs.Primitives.{after as gc_after}
use Rattle.plc_gc.specs.Run.{GcConfiguration, GcRun, begin as gc_begin, more as gc_more, turn as gc_turn, execute as gc_execute, beginning as gc_beginning, first_configuration as gc_first_configuration, Moves as GcMoves, MayTake as GcMayTake}
use Rattle.plc_gc.specs.Claims.{ClaimsHold}
use Rattle.plc_erasure.specs.Trace.{Trace, noted, stepped, traced, no_trace, first_trace, trace_of, kept, moves_of}
use Rattle.plc_erasure.specs.Erasure.{IsErased, AreErased}
use Rattle.plc_erasure.specs.Laws.{Follows, GoesOn, IsErasedRun, ErasureLaw, TrueClaimsAreActive}
use Rattle.plc_erasure.proofs.Primitives.{erased_primitive}
use Rattle.plc_gc.proofs.Claims.{at_prefix}
use Rattle.plc_erasure.specs.Claims.{actor_of, address_named, RunClaimsAreKept}
use Rattle.plc_erasure.proofs.Claimed.{claimed}
use Rattle.plc_erasure.proofs.Freeing.{freed_in, freed_is_retired, retired_is_used, erased_free}
use Rattle.plc_erasure.proofs.Given.{erased_given, same_none, same_empty, same_starting, erased_first}

-- ---- primitives in order

pub erased_primitives : (trace : Trace) (s : State) (g : GcState) (h : List Event) (t a k : ℕ) (ps : List Primitive) (new : State) (heard : List Event) → IsCoherent s → IsErased trace s g → execute s h t a k ps ≡ Fine new heard → GoesOn (stepped trace a ps) t ps new g
erased_primitives trace s g h t a k [] new heard coherent er e = let same : s ≡ new = cc in record { after = g; taken = refl; erased = subst (λ s. IsErased trace s g) same er; coherent = subst IsCoherent same coherent }
erased_primitives trace s g h t a k (p ∷ ps) new heard coherent er e =
    go (race_of s t p) refl (goes s t a p) refl
    (λ fine may one. erased_primitives (record { log = noted trace.log a p; gone = trace.gone }) (after s t a p) (gc_after g t p) (recorded h (event_of s t p)) t a (k + 1) ps new heard (coherence.by_primitive s t a p fine may coherent) one) e
  where
    next : race_of s t p ≡ None → goes s t a p ≡ true → (IsErased (record { log = noted trace.log a p; gone = trace.gone }) (after s t a p) (gc_after g t p) → GoesOn (stepped trace a (p ∷ ps)) t ps new (gc_after g t p)) → GoesOn (stepped trace a (p ∷ ps)) t (p ∷ ps) new g
    next fine may rest =
        let one = erased_primitive trace s g t a p fine may coherent er in
        let all = rest one.1 in
        record { after = all.after; taken = ap (λ b. gc_turn b (gc_execute (gc_after g t p) t ps)) one.0 ∙ all.taken; erased = all.erased; coherent = all.coherent }

    go : (r : Option RaceKind) → race_of s t p ≡ r → (b : Bool) → goes s t a p ≡ b
        → (race_of s t p ≡ None → goes s t a p ≡ true → IsErased (record { log = noted trace.log a p; gone = trace.gone }) (after s t a p) (gc_after g t p)
        → execute (after s t a p) (recorded h (event_of s t p)) t a (k + 1) ps ≡ Fine new heard → GoesOn (stepped trace a (p ∷ ps)) t ps new (gc_after g t p))
        → turn r b k (execute (after s t a p) (recorded h (event_of s t p)) t a (k + 1) ps) ≡ Fine new heard → GoesOn (stepped trace a (p ∷ ps)) t (p ∷ ps) new g
    go (Some kind) is b be rest e = cc
    go None is true be rest e = next is be (λ one. rest is be one e)
    go None is false be rest e = cc

-- ---- where runs begin

pub erased_begun : (flow : Flow) (threads : ℕ) (c : Configuration) → first_configuration flow threads ≡ Some c → (d : GcConfiguration) × (gc_first_configuration flow threads ≡ Some d) × AreErased (first_trace flow) c d
erased_begun flow threads c e =
    go (initialised flow threads) e (λ s h is. erased_primitives no_trace (with_locals (first_state flow threads) 0 (Some no_locals)) (gc_with_locals (gc_first_state flow threads) 0 (Some gc_no_locals)) [] 0 1 0 flow.file.init s h
    (coherence.by_give (first_state flow threads) 0 no_locals (coherence.none _) (coherence.first _ _ threads))
    (erased_given no_trace (first_state flow threads) (gc_first_state flow threads) 0 (Some no_locals) (Some gc_no_locals) (erased_first flow threads) (same_empty no_trace)) is) refl
  where
    go : (end : Ending) → beginning threads end ≡ Some c → ((s : State) (h : List Event) → initialised flow threads ≡ Fine s h → GoesOn (first_trace flow) 0 flow.file.init s (gc_with_locals (gc_first_state flow threads) 0 (Some gc_no_locals))) → initialised flow threads ≡ end
        → (d : GcConfiguration) × (gc_first_configuration flow threads ≡ Some d) × AreErased (first_trace flow) c d
    go (Fine s h) is all end =
        let on = all s h end in
        let same : record { state = with_locals s 0 None; history = h; points = replicate threads None } ≡ c = cc in
        let d : GcConfiguration = record { state = gc_with_locals on.after 0 None; points = replicate threads None } in (
          d,
          ap (gc_beginning threads) on.taken,
          subst (λ (c : Configuration). AreErased (first_trace flow) c d) same
              (record { points = refl; states = erased_given (first_trace flow) s on.after 0 None None on.erased (same_none (first_trace flow)) }),
        )
    go Stuck is all end = cc
    go (Raced kind k) is all end = cc

-- ---- a move

pub erased_move : (flow : Flow) (o : Observer) (threads : ℕ) → 0 < threads → (trace : Trace) (c d : Configuration) (before : GcConfiguration) (move : Move) (m : Moves flow o threads c move d) → IsObserved o threads c.state c.history → AreErased trace c before
    → Follows flow threads (traced flow o threads c d trace move m) d before move
erased_move flow o threads some trace c d before (Start t op args) m seen er =
    let at_entry : Option Point = Some (record { op = op.0; at = m.1.entry.0 }) in
    let after : GcConfiguration = record { state = gc_with_locals before.state t (Some (gc_starting m.0 args)); points = put_at None before.points t at_entry } in
    record {
      after = after;
      moved = (m.0, m.1, m.2, ap (λ ps. get_or ps t None) er.points ∙ m.3, m.4, m.5, m.6, refl);
      erased = subst (λ (d : Configuration). AreErased trace d after) (sym m.7)
          (record { points = ap (λ ps. put_at None ps t at_entry) er.points; states = erased_given trace c.state before.state t (Some _) (Some (gc_starting m.0 args)) er.states (same_starting trace m.0 args) });
    }
erased_move flow o threads some trace c d before (Take t nth addr) m seen er =
    let a = address_or_null addr in
    let on = erased_primitives trace c.state before.state c.history t a 0 m.1.prims m.2 m.3 seen.coherent er.states m.5 in
    let at_end : Option Point = Some (record m.0 { at = m.1.to.0 }) in
    let after : GcConfiguration = record { state = on.after; points = put_at None before.points t at_end } in
    record {
      after = after;
      moved = (m.0, m.1, on.after, record { known = m.4.known; busy = ap (λ ps. get_or ps t None) er.points ∙ m.4.busy; leaves_there = m.4.leaves_there }, on.taken, refl);
      erased = subst (λ (d : Configuration). AreErased (stepped trace a m.1.prims) d after) (sym m.6)
          (record { points = ap (λ ps. put_at None ps t at_end) er.points; states = on.erased });
    }
erased_move flow o threads some trace c d before (Return t) m seen er =
    let after : GcConfiguration = record { state = gc_with_locals before.state t None; points = put_at None before.points t None } in
    record {
      after = after;
      moved = (m.0, m.1, m.2, ap (λ ps. get_or ps t None) er.points ∙ m.3, m.4, m.5, refl);
      erased = subst (λ (d : Configuration). AreErased trace d after) (sym m.6)
          (record { points = ap (λ ps. put_at None ps t None) er.points; states = erased_given trace c.state before.state t None None er.states (same_none trace) });
    }
erased_move flow o threads some trace c d before (Free a) m seen er =
    let retired = freed_is_retired o threads c.state c.history a some m.0 seen m.1 in
    record {
      after = before;
      moved = refl;
      erased = subst (λ (d : Configuration). AreErased (freed_in trace a) d before) (sym m.2)
          (record { points = er.points; states = erased_free trace c.state before.state a m.0 er.states (retired_is_used c.state a seen.coherent retired) retired });
    }

-- ---- a run

-- the run with one move more, if it is no free
kept_run : (flow : Flow) (threads : ℕ) (ms : List Move) (c d : GcConfiguration) (move : Move) → GcRun flow threads ms c → GcMoves flow threads c move d → GcRun flow threads (kept ms move) d
kept_run flow threads ms c d (Start t op args) run m = gc_more run (Start t op args) m
kept_run flow threads ms c d (Take t nth addr) run m = gc_more run (Take t nth addr) m
kept_run flow threads ms c d (Return t) run m = gc_more run (Return t) m
kept_run flow threads ms c d (Free a) run m = subst (GcRun flow threads ms) (sym m) run

-- the run and its state, without a further step
record Collected (flow : Flow) (o : Observer) (threads n : ℕ) (c : Configuration) (run : Run flow o threads n c) : Type 0 where
  collected : GcConfiguration
  runs : GcRun flow threads (moves_of flow o threads n c run) collected
  erased : AreErased (trace_of flow o threads n c run) c collected

collect : (flow : Flow) (o : Observer) (threads : ℕ) → is_well_formed o ≡ true → 0 < threads → (n : ℕ) (c : Configuration) (run : Run flow o threads n c) → Collected flow o threads n c run
collect flow o threads w some n c (begin e) =
    let first = erased_begun flow threads c e in
    record { collected = first.0; runs = gc_begin first.1; erased = first.2 }
collect flow o threads w some n d (more {n = m} {c = c} run move moved) =
    let before = collect flow o threads w some m c run in
    let on = erased_move flow o threads some (trace_of flow o threads m c run) c d before.collected move moved ((observed o w threads).run flow m c run) before.erased in
    record { collected = on.after; runs = kept_run flow threads (moves_of flow o threads m c run) before.collected on.after move before.runs on.moved; erased = on.erased }

pub erased_run : (flow : Flow) (o : Observer) (threads : ℕ) → is_well_formed o ≡ true → 0 < threads → (n : ℕ) (c : Configuration) (run : Run flow o threads n c) → IsErasedRun flow o threads n c run
erased_run flow o threads w some n c run =
    let all = collect flow o threads w some n c run in
    let on : (t a : ℕ) (ps : List Primitive) (s : State) (h : List Event) → execute c.state c.history t a 0 ps ≡ Fine s h → GoesOn (stepped (trace_of flow o threads n c run) a ps) t ps s all.collected.state
    = λ t a ps s h e. erased_primitives (trace_of flow o threads n c run) c.state all.collected.state c.history t a 0 ps s h ((observed o w threads).run flow n c run).coherent all.erased.states e in
    record {
      collected = all.collected;
      runs = all.runs;
      erased = all.erased;
      further = on;
      active = λ t a ps qs p s h e claims. (
          let reached = on t a ps s h e in
          claimed (stepped (trace_of flow o threads n c run) a ps) s reached.after t p reached.coherent reached.erased (at_prefix all.collected.state reached.after t ps qs (Active p) claims reached.taken)
          );
    }

pub erasure : (flow : Flow) (o : Observer) (threads : ℕ) → is_well_formed o ≡ true → 0 < threads → ErasureLaw flow o threads
erasure flow o threads w some = record {
  begun = erased_begun flow threads;
  by_primitive = erased_primitive;
  by_claim = claimed;
  by_move = erased_move flow o threads some;
  run = erased_run flow o threads w some;
}

-- ---- claims

pub true_claims : (flow : Flow) (o : Observer) (threads : ℕ) → is_well_formed o ≡ true → 0 < threads → TrueClaimsAreActive flow o threads
true_claims flow o threads w some all n c run t nth addr p step may ps qs v whole s h e =
    let er = erased_run flow o threads w some n c run in
    let mine : GcMayTake flow threads er.collected t nth p step = record { known = may.known; busy = ap (λ ps. get_or ps t None) er.erased.points ∙ may.busy; leaves_there = may.leaves_there } in
    er.active t (address_or_null addr) ps qs v s h e (subst (ClaimsHold er.collected.state t) whole (all (moves_of flow o threads n c run) er.collected er.runs t nth p step mine))

pub run_claims : (flow : Flow) (o : Observer) (threads : ℕ) → is_well_formed o ≡ true → 0 < threads → RunClaimsAreKept flow o threads
run_claims flow o threads w some n c (begin e) all = tt
run_claims flow o threads w some n d (more {n = m} {c = c} run move moved) all =
    let er = erased_run flow o threads w some m c run in (
      run_claims flow o threads w some m c run all.0,
      λ ps qs v whole s h e. er.active (actor_of move) (address_named move) ps qs v s h e (subst (ClaimsHold er.collected.state (actor_of move)) whole (all.1 er.collected er.runs)),
    )
