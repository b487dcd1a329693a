-- The facts that need no types, through every primitive and every move.
use Rattle.std.proofs.Common.{replicate, ◌≡◌, ℕ, ◌+◌, ◌<◌, Bool, true, false, not, ◌&&◌, ◌||◌, ◌==◌, List, [], ◌∷◌, ◌++◌, Option, Some, None, refl, sym, ap, ◌∙◌, subst, arith, inl, inr}
use Rattle.std.specs.Prelude.{if◌then◌else◌}
use Rattle.std.proofs.lemmas.Bool.{cases_Bool, not-true, eq-eqb, eqb-true, ne_eqb}
use Rattle.plc_lang.specs.declared.syntax.Arg.{Arg}
use Rattle.plc_lang.specs.declared.syntax.Arg.TheVariants as args
use Rattle.plc_lang.specs.declared.syntax.Primitive.{Primitive}
use Rattle.plc_lang.specs.declared.syntax.Primitive.TheVariants.{Null, Copy, New, Load, Store, StoreNull, DataSet, DataLoad, DataStore, Refresh, RefreshLoad, RefreshStore, Call, Done}
use Rattle.plc_lang.specs.declared.syntax.Primitive.TheVariants.{Mark, Unmark}
use Rattle.plc_auto.specs.declared.event.Event.{Event}
use Rattle.plc_auto.specs.declared.event.Event.TheVariants.{Call as Called, Done as Returned, Free as Freed}
use Rattle.plc_auto.specs.declared.observer.Observer.{Observer}
use Rattle.plc_auto.specs.Table.{count_of, is_well_formed}
use Rattle.plc_base.specs.Functions.{is_retire}
use Rattle.plc_auto.specs.Location.{is_this, location, Allowed, stands_retired}
use Rattle.plc_auto.specs.Laws.{retired_by}
use Rattle.plc_auto.proofs.Histories.{location_empty, location_live, allowed_empty, allowed_last, allowed_spoken}
use Rattle.plc_auto.proofs.Letters.{retired_longer, initial_unretired}
use Rattle.plc_flow.specs.declared.flow.Flow.{Flow}
use Rattle.plc_moves.specs.declared.words.Move.{Move}
use Rattle.plc_moves.specs.declared.words.Move.TheVariants.{Start, Step as Take, Return, Free}
use Rattle.plc_mem.specs.declared.cell.Cell.{Cell}
use Rattle.plc_mem.specs.declared.cell.RaceKind.{RaceKind}
use Rattle.plc_mem.specs.State.{State, Place, Locals, null_cell, put, put_field_value, place, is_used, is_retired, with_node, with_locals, freed, first_state, no_locals}
use Rattle.plc_mem.specs.Primitives.{cell_at, goes_call, after_call, address_of, race_of, goes, after, event_of}
use Rattle.plc_mem.specs.Laws.{is_there}
use Rattle.plc_mem.specs.Coherence.{IsCoherent}
use Rattle.plc_mem.proofs.Coherence.{coherence}
use Rattle.plc_mem.proofs.Views.{writes, writes_nothing, writes_local, writes_field, writes_no_field, retires, frees, gives, fresh_is_unretired}
use Rattle.plc_run.specs.Run.{Ending, Fine, Stuck, Raced, turn, recorded, execute, Configuration, Moves, Run, begin, more, beginning, initialised, first_configuration}
use Rattle.plc_run.specs.Observed.{IsObserved, RunsAreObserved}

-- ---- the retired addresses after each change

put_retired : (s : State) (p : Place) (c : Cell) (b : ℕ) → is_retired (put s p c) b ≡ is_retired s b
put_retired s p c b = elim (cases_Bool (is_there s p)) [
  | inl there ↦ (writes s p c there).addresses.retired b
  | inr absent ↦ ap (λ s. is_retired s b) (writes_nothing s p c absent)
]

field_retired : (s : State) (a f n b : ℕ) → is_retired (put_field_value s a f n) b ≡ is_retired s b
field_retired s a f n b = elim (cases_Bool (is_used s a)) [
  | inl used ↦ (writes_field s a f n used).addresses.retired b
  | inr unused ↦ ap (λ s. is_retired s b) (writes_no_field s a f n unused)
]

node_retired : (s : State) (a b : ℕ) → is_retired (with_node s a) b ≡ is_retired s b
unfolding is_retired with_node
node_retired s a b = refl

-- whether an address is retired after an event, if there was one
abbrev heard : Option Event → ℕ → Bool → Bool
heard None b before = before
heard (Some e) b before = retired_by e b before

call_retired : (s : State) (t b : ℕ) (f : Bool) (r : Arg) → goes_call s t f r ≡ true → is_retired (after_call s t f r) b ≡ (if f && is_this (address_of s t r) b then true else is_retired s b)
call_retired s t b true (args.Var p) may =
    let some : ((cell_at s t p).number == 0) ≡ false = not-true _ may in
    (retires s (cell_at s t p).number).retired b ∙ rw some (same (is_retired s b) ((cell_at s t p).number == b))
  where
    same : (x y : Bool) → (x || y) ≡ (if y && true then true else x)
    same true true = refl
    same true false = refl
    same false true = refl
    same false false = refl
call_retired s t b true args.Null may = other (0 == b) (is_retired s b)
  where
    other : (x y : Bool) → y ≡ (if x && false then true else y)
    other true y = refl
    other false y = refl
call_retired s t b true args.None may = refl
call_retired s t b false r may = refl

after_retired : (s : State) (t a b : ℕ) (k : Primitive) → goes s t a k ≡ true → is_retired (after s t a k) b ≡ heard (event_of s t k) b (is_retired s b)
after_retired s t a b (Null p) may = put_retired s (place t p) null_cell b
after_retired s t a b (Copy p q) may = put_retired s (place t p) _ b
after_retired s t a b (New p) may = put_retired (with_node s a) (place t p) _ b ∙ node_retired s a b
after_retired s t a b (Load p q f) may = put_retired s (place t p) _ b
after_retired s t a b (Store p f q) may = put_retired s _ _ b
after_retired s t a b (StoreNull p f) may = put_retired s _ _ b
after_retired s t a b (DataSet x e) may = (writes_local s t x _).addresses.retired b
after_retired s t a b (DataLoad x q f) may = (writes_local s t x _).addresses.retired b
after_retired s t a b (DataStore p f e) may = field_retired s _ _ _ b
after_retired s t a b (Refresh p q) may = put_retired s _ _ b
after_retired s t a b (RefreshLoad p q f) may = put_retired s _ _ b
after_retired s t a b (RefreshStore p f q) may = put_retired s _ _ b
after_retired s t a b (Mark p q) may = put_retired s (place t p) _ b
after_retired s t a b (Unmark p q) may = put_retired s (place t p) _ b
after_retired s t a b (Call f r) may = call_retired s t b (is_retire f) r may
after_retired s t a b k may = refl

-- ---- one event more

live_of : (o : Observer) (threads : ℕ) (h : List Event) → Allowed o threads h → (t a : ℕ) → t < threads → 0 < a → (l : ℕ) × (location o h t a ≡ Some l) × (l < count_of o)
live_of o threads h fine t a small one = go (location o h t a) refl
  where
    go : (q : Option ℕ) → location o h t a ≡ q → (l : ℕ) × (location o h t a ≡ Some l) × (l < count_of o)
    go None bad = absurd (allowed_last o threads h t a fine small one bad)
    go (Some l) is = (l, is, location_live o h t a l is)

observed_after : (o : Observer) → is_well_formed o ≡ true → (threads : ℕ) (s new : State) (h : List Event) (e : Option Event)
    → IsCoherent new → Allowed o threads (recorded h e) → ((b : ℕ) → 0 < b → is_retired new b ≡ heard e b (is_retired s b)) → IsObserved o threads s h → IsObserved o threads new (recorded h e)
observed_after o w threads s new h None coherent allowed retired k = record {
  coherent = coherent;
  allowed = allowed;
  retired = λ t a small one. retired a one ∙ k.retired t a small one;
  live = live_of o threads h allowed;
}
observed_after o w threads s new h (Some e) coherent allowed retired k = record {
  coherent = coherent;
  allowed = allowed;
  retired = λ t a small one.
      retired a one ∙ ap (retired_by e a) (k.retired t a small one)
      ∙ sym (retired_longer o w h e t a (allowed_last o threads (h ++ e ∷ []) t a allowed small one));
  live = live_of o threads (h ++ e ∷ []) allowed;
}

-- a primitive is heard calling or returning, and not freeing
pub recorded_allowed : (o : Observer) (threads : ℕ) (s : State) (h : List Event) (t : ℕ) (k : Primitive) → Allowed o threads h → Allowed o threads (recorded h (event_of s t k))
recorded_allowed o threads s h t (Call f r) fine = allowed_spoken o threads h (Called t f (address_of s t r)) refl fine
recorded_allowed o threads s h t (Done f) fine = allowed_spoken o threads h (Returned t f) refl fine
recorded_allowed o threads s h t k fine = fine

primitive_observed : (o : Observer) → is_well_formed o ≡ true → (threads : ℕ) (s : State) (h : List Event) (t a : ℕ) (k : Primitive) → race_of s t k ≡ None → goes s t a k ≡ true → IsObserved o threads s h → IsObserved o threads (after s t a k) (recorded h (event_of s t k))
primitive_observed o w threads s h t a k fine may seen =
    observed_after o w threads s (after s t a k) h (event_of s t k)
    (coherence.by_primitive s t a k fine may seen.coherent) (recorded_allowed o threads s h t k seen.allowed) (λ b one. after_retired s t a b k may) seen

-- ---- a step

-- where all succeeded, the state is as the observer says
abbrev EndsObserved : Observer → ℕ → Ending → Type 0
EndsObserved o threads (Fine s h) = IsObserved o threads s h
EndsObserved o threads Stuck = Unit {0}
EndsObserved o threads (Raced kind k) = Unit {0}

execute_observed : (o : Observer) → is_well_formed o ≡ true → (threads : ℕ) (s : State) (h : List Event) (t a k : ℕ) (ps : List Primitive) → IsObserved o threads s h → EndsObserved o threads (execute s h t a k ps)
execute_observed o w threads s h t a k [] seen = seen
execute_observed o w threads s h t a k (p ∷ ps) seen =
    go (race_of s t p) refl (goes s t a p) refl (λ fine may. execute_observed o w threads (after s t a p) (recorded h (event_of s t p)) t a (k + 1) ps (primitive_observed o w threads s h t a p fine may seen))
  where
    go : (r : Option RaceKind) → race_of s t p ≡ r → (g : Bool) → goes s t a p ≡ g → (race_of s t p ≡ None → goes s t a p ≡ true → EndsObserved o threads (execute (after s t a p) (recorded h (event_of s t p)) t a (k + 1) ps))
        → EndsObserved o threads (turn r g k (execute (after s t a p) (recorded h (event_of s t p)) t a (k + 1) ps))
    go (Some kind) is g be next = tt
    go None is true be next = next is be
    go None is false be next = tt

-- ---- moves

given_observed : (o : Observer) (threads : ℕ) (s : State) (h : List Event) (t : ℕ) (l : Option Locals) → IsCoherent (with_locals s t l) → IsObserved o threads s h → IsObserved o threads (with_locals s t l) h
given_observed o threads s h t l coherent k = record {
  coherent = coherent;
  allowed = k.allowed;
  retired = λ u a small one. (gives s t l).addresses.retired a ∙ k.retired u a small one;
  live = k.live;
}

freed_retired : (s : State) (a b : ℕ) → 0 < a → is_retired (freed s a) b ≡ heard (Some (Freed a)) b (is_retired s b)
freed_retired s a b pos =
    let some : (a == 0) ≡ false = ne_eqb a 0 (λ e. absurd (omega (arith, e))) in
    (frees s a pos).retired b ∙ rw (some, swapped a b) (same (is_retired s b) (a == b))
  where
    swapped : (a b : ℕ) → (b == a) ≡ (a == b)
    swapped a b = elim (cases_Bool (a == b)) [
      | inl e ↦ eq-eqb b a (sym (eqb-true a b e)) ∙ sym e
      | inr n ↦ ne_eqb b a (λ e. (let c : (a == b) ≡ true = eq-eqb a b (sym e) in cc)) ∙ sym n
    ]

    same : (x y : Bool) → (x && not y) ≡ (if y && true then false else x)
    same true true = refl
    same true false = refl
    same false true = refl
    same false false = refl

move_observed : (o : Observer) → is_well_formed o ≡ true → (threads : ℕ) (flow : Flow) (c d : Configuration) (move : Move) → Moves flow o threads c move d → IsObserved o threads c.state c.history → IsObserved o threads d.state d.history
move_observed o w threads flow c d (Start t op args) m k =
    subst (λ (d : Configuration). IsObserved o threads d.state d.history) (sym m.7)
    (given_observed o threads c.state c.history t (Some _) (coherence.by_give c.state t _ (coherence.begun c.state m.0 args) k.coherent) k)
move_observed o w threads flow c d (Take t nth addr) m k =
    subst (λ (d : Configuration). IsObserved o threads d.state d.history) (sym m.6)
    (subst (EndsObserved o threads) m.5 (execute_observed o w threads c.state c.history t _ 0 m.1.prims k))
move_observed o w threads flow c d (Return t) m k =
    subst (λ (d : Configuration). IsObserved o threads d.state d.history) (sym m.6)
    (given_observed o threads c.state c.history t None (coherence.by_take c.state t k.coherent) k)
move_observed o w threads flow c d (Free a) m k =
    subst (λ (d : Configuration). IsObserved o threads d.state d.history) (sym m.2)
    (observed_after o w threads c.state (freed c.state a) c.history (Some (Freed a)) (coherence.by_free c.state a m.0 k.coherent) m.1 (λ b one. freed_retired c.state a b m.0) k)

-- ---- where runs begin

fresh_observed : (o : Observer) (threads : ℕ) (flow : Flow) → IsObserved o threads (first_state flow threads) []
fresh_observed o threads flow = record {
  coherent = coherence.first _ _ threads;
  allowed = allowed_empty o threads;
  retired = λ t a small one. fresh_is_unretired _ _ threads a ∙ sym (ap (stands_retired o) (location_empty o t a) ∙ initial_unretired o);
  live = live_of o threads [] (allowed_empty o threads);
}

begun_observed : (o : Observer) → is_well_formed o ≡ true → (threads : ℕ) (flow : Flow) (c : Configuration) → first_configuration flow threads ≡ Some c → IsObserved o threads c.state c.history
begun_observed o w threads flow c e =
    go (initialised flow threads) e
    (execute_observed o w threads _ [] 0 1 0 flow.file.init (given_observed o threads (first_state flow threads) [] 0 (Some no_locals) (coherence.by_give _ 0 no_locals (coherence.none _) (coherence.first _ _ threads)) (fresh_observed o threads flow)))
  where
    go : (end : Ending) → beginning threads end ≡ Some c → EndsObserved o threads end → IsObserved o threads c.state c.history
    go (Fine s h) is seen =
        let same : record { state = with_locals s 0 None; history = h; points = replicate threads None } ≡ c = cc in
        subst (λ (d : Configuration). IsObserved o threads d.state d.history) same (given_observed o threads s h 0 None (coherence.by_take s 0 seen.coherent) seen)
    go Stuck is seen = cc
    go (Raced kind k) is seen = cc

run_observed : (o : Observer) → is_well_formed o ≡ true → (threads : ℕ) (flow : Flow) (n : ℕ) (c : Configuration) → Run flow o threads n c → IsObserved o threads c.state c.history
run_observed o w threads flow n c (begin e) = begun_observed o w threads flow c e
run_observed o w threads flow n d (more {n = m} {c = c} run move moved) = move_observed o w threads flow c d move moved (run_observed o w threads flow m c run)

pub observed : (o : Observer) → is_well_formed o ≡ true → (threads : ℕ) → RunsAreObserved o threads
observed o w threads = record {
  begun = begun_observed o w threads;
  by_primitive = primitive_observed o w threads;
  by_move = move_observed o w threads;
  run = run_observed o w threads;
}
