-- In a flow that doesn't use marks nothing is ever marked: through each change, each primitive and each move, by the
-- laws of the state alone.
use Rattle.std.proofs.Common.{◌≡◌, ℕ, zero, suc, Bool, true, false, ◌&&◌, ◌==◌, List, [], ◌∷◌, Option, Some, None}
use Rattle.std.proofs.Common.{get_or, slice_get, replicate, length, refl, sym, ap, ◌∙◌, subst, inl, inr}
use Rattle.std.proofs.lemmas.Bool.{cases_eq, or_parts}
use Rattle.std.specs.List.{list_any}
use Rattle.std.specs.Option.{unwrap_or}
use Rattle.plc_base.specs.Functions.{is_retire}
use Rattle.plc_base.proofs.Tables.{get-replicate}
use Rattle.plc_lang.specs.declared.syntax.Var.{Var}
use Rattle.plc_lang.specs.declared.syntax.Var.TheVariants.{Shared, Local}
use Rattle.plc_lang.specs.declared.syntax.Arg.{Arg}
use Rattle.plc_lang.specs.declared.syntax.Arg.TheVariants as args
use Rattle.plc_lang.specs.declared.syntax.Primitive.{Primitive}
use Rattle.plc_lang.specs.declared.syntax.Primitive.TheVariants.{Null, Copy, New, Load, Store, StoreNull, DataSet}
use Rattle.plc_lang.specs.declared.syntax.Primitive.TheVariants.{DataLoad, DataStore, Eq, Ne, IsNull, NotNull, DataTest}
use Rattle.plc_lang.specs.declared.syntax.Primitive.TheVariants.{Refresh, RefreshLoad, RefreshStore, Mark, Unmark}
use Rattle.plc_lang.specs.declared.syntax.Primitive.TheVariants.{MarkTest, Call, Done, Active, Ghost}
use Rattle.plc_lang.specs.Marks.{speaks_of_marks, speak_of_marks}
use Rattle.plc_flow.specs.declared.flow.Flow.{Flow}
use Rattle.plc_moves.specs.declared.words.Move.{Move}
use Rattle.plc_moves.specs.declared.words.Move.TheVariants.{Start, Step as Take, Return, Free}
use Rattle.plc_flow.specs.declared.flow.Step.{Step}
use Rattle.plc_flow.specs.Marks.{flow_uses_marks}
use Rattle.plc_flow.specs.Points.{steps_from, leaves}
use Rattle.plc_flow.proofs.Leaving.{filter_member}
use Rattle.plc_gc.specs.declared.slot.Slot.{Slot}
use Rattle.plc_gc.specs.declared.slot.Slot.TheVariants.{SharedMark as shared_mark, LocalMark as local_mark}
use Rattle.plc_gc.specs.declared.slot.Slot.TheVariants.{Data as in_data}
use Rattle.plc_gc.specs.declared.slot.Map.{Map}
use Rattle.plc_gc.specs.declared.slot.Pointer.{Pointer}
use Rattle.plc_gc.specs.declared.slot.Map.TheVariants.{Mark as mark_field, Number as data_field}
use Rattle.plc_gc.specs.declared.slot.Map.TheVariants.{Auxiliary as auxiliary_field, Retirement as retirement}
use Rattle.plc_gc.specs.State.{GcState, Locals, null_pointer, value, entry, put, put_pointer, update, update_pointer}
use Rattle.plc_gc.specs.State.{made, slot, mark_slot, with_locals, no_locals, starting, first_state}
use Rattle.plc_gc.specs.Primitives.{node_at, mark_at, same_pointer, after_call, goes, after}
use Rattle.plc_gc.specs.Run.{GcConfiguration, GcRun, begin, more, turn, execute, beginning, initialised}
use Rattle.plc_gc.specs.Run.{first_configuration, Moves}
use Rattle.plc_gc.specs.Unmarked.{AllUnmarked, RunsStayUnmarked}
use Rattle.plc_gc.proofs.Ranges.{cases_slot}
use Rattle.plc_gc.proofs.Views.{puts, updates, puts_pointer, updates_pointer, makes, gives, first}

-- ---- changes

no_shared_mark : (t : ℕ) (p : Var) (i : ℕ) → shared_mark i ≡ slot t p → ⊥
no_shared_mark t (Shared j) i e = cc
no_shared_mark t (Local v) i e = cc

no_local_mark : (t : ℕ) (p : Var) (u v : ℕ) → local_mark u v ≡ slot t p → ⊥
no_local_mark t (Shared j) u v e = cc
no_local_mark t (Local w) u v e = cc

-- a place that holds no node is still unmarked after an unmarked pointer was put
still : (g : GcState) (t : ℕ) (p : Var) (n m : ℕ) (q : Slot) → m ≡ 0 → (q ≡ slot t p → ⊥) → value g q ≡ 0
    → value (put_pointer g t p n m) q ≡ 0
still g t p n m q clear ne before =
    let u = puts_pointer g t p n m in
    elim (cases_slot q (mark_slot t p)) [
      | inl e ↦ ap (value (put_pointer g t p n m)) e ∙ u.mark ∙ clear
      | inr other ↦ u.elsewhere q ne other ∙ before
    ]

unmarked_pointer : (g : GcState) (t : ℕ) (p : Var) (n m : ℕ) → m ≡ 0 → AllUnmarked g
    → AllUnmarked (put_pointer g t p n m)
unmarked_pointer g t p n m clear k = record {
  shared = λ i. still g t p n m (shared_mark i) clear (no_shared_mark t p i) (k.shared i);
  locals = λ u v. still g t p n m (local_mark u v) clear (no_local_mark t p u v) (k.locals u v);
  fields = λ f j. (puts_pointer g t p n m).nodes.entries (mark_field f) j ∙ k.fields f j;
}

unmarked_data : (g : GcState) (t x n : ℕ) → AllUnmarked g → AllUnmarked (put g (in_data t x) n)
unmarked_data g t x n k =
    let u = puts g (in_data t x) n in
    record {
      shared = λ i. u.elsewhere (shared_mark i) (λ e. cc) ∙ k.shared i;
      locals = λ y v. u.elsewhere (local_mark y v) (λ e. cc) ∙ k.locals y v;
      fields = λ f j. u.nodes.entries (mark_field f) j ∙ k.fields f j;
    }

unmarked_update : (g : GcState) (m : Map) (i n : ℕ) → ((f : ℕ) → mark_field f ≡ m → ⊥) → AllUnmarked g
    → AllUnmarked (update g m i n)
unmarked_update g m i n other k =
    let u = updates g m i n in
    record {
      shared = λ i. u.values (shared_mark i) ∙ k.shared i;
      locals = λ t v. u.values (local_mark t v) ∙ k.locals t v;
      fields = λ f j. u.other_map (mark_field f) j (other f) ∙ k.fields f j;
    }

field_still : (g : GcState) (f i n m : ℕ) → m ≡ 0 → AllUnmarked g → (e j : ℕ)
    → entry (update_pointer g f i n m) (mark_field e) j ≡ 0
field_still g f i n m clear k e j =
    let u = updates_pointer g f i n m in
    elim (cases_eq e f) [
      | inl same ↦ elim (cases_eq j i) [
        | inl here ↦ ap (λ e. entry (update_pointer g f i n m) (mark_field e) j) same
            ∙ ap (entry (update_pointer g f i n m) (mark_field f)) here ∙ u.mark ∙ clear
        | inr there ↦ u.other_node (mark_field e) j there ∙ k.fields e j
      ]
      | inr other ↦ u.other_map (mark_field e) j (λ q. cc) (λ q. other (cc)) ∙ k.fields e j
    ]

unmarked_field : (g : GcState) (f i n m : ℕ) → m ≡ 0 → AllUnmarked g → AllUnmarked (update_pointer g f i n m)
unmarked_field g f i n m clear k =
    let u = updates_pointer g f i n m in
    record {
      shared = λ i. u.values (shared_mark i) ∙ k.shared i;
      locals = λ t v. u.values (local_mark t v) ∙ k.locals t v;
      fields = field_still g f i n m clear k;
    }

unmarked_made : (g : GcState) → AllUnmarked g → AllUnmarked (made g)
unmarked_made g k = record {
  shared = λ i. (makes g).values (shared_mark i) ∙ k.shared i;
  locals = λ t v. (makes g).values (local_mark t v) ∙ k.locals t v;
  fields = λ f j. (makes g).entries (mark_field f) j ∙ k.fields f j;
}

pub unmarked_given : (g : GcState) (t : ℕ) (l : Option Locals)
    → ((v : ℕ) → get_or (unwrap_or l no_locals).pointers v null_pointer ≡ null_pointer) → AllUnmarked g
    → AllUnmarked (with_locals g t l)
unmarked_given g t l null k =
    let u = gives g t l in
    record {
      shared = λ i. u.shared_marks i ∙ k.shared i;
      locals = λ y v. elim (cases_eq y t) [
        | inl e ↦ ap (λ y. value (with_locals g t l) (local_mark y v)) e ∙ u.marks v
            ∙ ap (λ (p : Pointer). p.mark) (null v)
        | inr ne ↦ u.other_marks y v ne ∙ k.locals y v
      ];
      fields = λ f j. u.nodes.entries (mark_field f) j ∙ k.fields f j;
    }

-- ---- primitives

pub clear_at : (g : GcState) (t : ℕ) (v : Var) → AllUnmarked g → mark_at g t v ≡ 0
clear_at g t (Shared i) k = k.shared i
clear_at g t (Local v) k = k.locals t v

and_true : (b : Bool) → b && true ≡ b
and_true true = refl
and_true false = refl

-- where nothing is marked a comparison is one of nodes
pub unmarked_compared : (g : GcState) (t : ℕ) (p q : Var) → AllUnmarked g
    → same_pointer g t p q ≡ (node_at g t p == node_at g t q)
unmarked_compared g t p q k =
    ap (λ m. (node_at g t p == node_at g t q) && (m == mark_at g t q)) (clear_at g t p k)
    ∙ ap (λ m. (node_at g t p == node_at g t q) && (0 == m)) (clear_at g t q k)
    ∙ and_true _

unmarked_call : (g : GcState) (t : ℕ) (b : Bool) (r : Arg) → AllUnmarked g → AllUnmarked (after_call g t b r)
unmarked_call g t true (args.Var p) k = unmarked_update g retirement _ 1 (λ f e. cc) k
unmarked_call g t true args.Null k = k
unmarked_call g t true args.None k = k
unmarked_call g t false r k = k

pub unmarked_primitive : (g : GcState) (t : ℕ) (p : Primitive) → speaks_of_marks p ≡ false → AllUnmarked g
    → AllUnmarked (after g t p)
unmarked_primitive g t (Null p) clean k = unmarked_pointer g t p 0 0 refl k
unmarked_primitive g t (Copy p q) clean k = unmarked_pointer g t p _ _ (clear_at g t q k) k
unmarked_primitive g t (New p) clean k = unmarked_pointer (made g) t p _ 0 refl (unmarked_made g k)
unmarked_primitive g t (Load p q f) clean k = unmarked_pointer g t p _ _ (k.fields f.0 _) k
unmarked_primitive g t (Store p f q) clean k = unmarked_field g f.0 _ _ _ (clear_at g t q k) k
unmarked_primitive g t (StoreNull p f) clean k = unmarked_field g f.0 _ 0 0 refl k
unmarked_primitive g t (DataSet x e) clean k = unmarked_data g t x _ k
unmarked_primitive g t (DataLoad x q f) clean k = unmarked_data g t x _ k
unmarked_primitive g t (DataStore p f e) clean k = unmarked_update g (data_field f.0) _ _ (λ f e. cc) k
unmarked_primitive g t (Eq p q) clean k = k
unmarked_primitive g t (Ne p q) clean k = k
unmarked_primitive g t (IsNull p) clean k = k
unmarked_primitive g t (NotNull p) clean k = k
unmarked_primitive g t (DataTest r x e) clean k = k
unmarked_primitive g t (Refresh p q) clean k = unmarked_pointer g t (Local p) _ _ (clear_at g t q k) k
unmarked_primitive g t (RefreshLoad p q f) clean k = unmarked_pointer g t (Local p) _ _ (k.fields f.0 _) k
unmarked_primitive g t (RefreshStore p f q) clean k = unmarked_field g f.0 _ _ _ (clear_at g t q k) k
unmarked_primitive g t (Mark p q) clean k = cc
unmarked_primitive g t (Unmark p q) clean k = cc
unmarked_primitive g t (MarkTest p m) clean k = cc
unmarked_primitive g t (Call f r) clean k = unmarked_call g t (is_retire f) r k
unmarked_primitive g t (Done f) clean k = k
unmarked_primitive g t (Active p) clean k = k
unmarked_primitive g t (Ghost p h v) clean k = unmarked_update g (auxiliary_field h) _ _ (λ f e. cc) k

unmarked_primitives : (g new : GcState) (t : ℕ) (ps : List Primitive) → speak_of_marks ps ≡ false
    → execute g t ps ≡ Some new → AllUnmarked g → AllUnmarked new
unmarked_primitives g new t [] clean e k = let same : g ≡ new = cc in subst AllUnmarked same k
unmarked_primitives g new t (p ∷ ps) clean e k =
    let both = or_parts (speaks_of_marks p) (speak_of_marks ps) clean in
    go (goes g t p) e (λ rest. unmarked_primitives (after g t p) new t ps both.1 rest
    (unmarked_primitive g t p both.0 k))
  where
    go : (b : Bool) → turn b (execute (after g t p) t ps) ≡ Some new
        → (execute (after g t p) t ps ≡ Some new → AllUnmarked new) → AllUnmarked new
    go true e next = next e
    go false e next = cc

-- ---- moves and runs

-- where no step of several speaks of marks, none does that is found among them
pub quiet_at : (steps : List Step) → list_any (λ (s : Step). speak_of_marks s.prims) steps ≡ false → (k : ℕ) (s : Step)
    → slice_get steps k ≡ Some s → speak_of_marks s.prims ≡ false
quiet_at [] clean k s e = cc
quiet_at (r ∷ steps) clean zero s e =
    let same : r ≡ s = cc in
    ap (λ (s : Step). speak_of_marks s.prims) (sym same) ∙ (or_parts (speak_of_marks r.prims) _ clean).0
quiet_at (r ∷ steps) clean (suc k) s e = quiet_at steps (or_parts (speak_of_marks r.prims) _ clean).1 k s e

-- the steps that leave a point of a flow that doesn't use marks speak of none
pub quiet_steps : (flow : Flow) → flow_uses_marks flow ≡ false → (p nth : ℕ) (s : Step)
    → slice_get (steps_from flow p) nth ≡ Some s → speak_of_marks s.prims ≡ false
quiet_steps flow clean p nth s there =
    let m = filter_member (leaves p) flow.steps nth s there in
    quiet_at flow.steps (or_parts (speak_of_marks flow.file.init) _ clean).1 m.0 s m.1

unmarked_move : (flow : Flow) (threads : ℕ) → flow_uses_marks flow ≡ false → (c d : GcConfiguration) (move : Move)
    → Moves flow threads c move d → AllUnmarked c.state → AllUnmarked d.state
unmarked_move flow threads clean c d (Start t op args) m k =
    subst (λ (d : GcConfiguration). AllUnmarked d.state) (sym m.7)
    (unmarked_given c.state t (Some (starting m.0 args)) (λ v. get-replicate null_pointer _ v) k)
unmarked_move flow threads clean c d (Take t nth addr) m k =
    subst (λ (d : GcConfiguration). AllUnmarked d.state) (sym m.5)
    (unmarked_primitives c.state m.2 t m.1.prims (quiet_steps flow clean m.0.at nth m.1 m.3.leaves_there) m.4 k)
unmarked_move flow threads clean c d (Return t) m k =
    subst (λ (d : GcConfiguration). AllUnmarked d.state) (sym m.6) (unmarked_given c.state t None (λ v. refl) k)
unmarked_move flow threads clean c d (Free a) m k = subst (λ (d : GcConfiguration). AllUnmarked d.state) (sym m) k

pub unmarked_first : (flow : Flow) (threads : ℕ) → AllUnmarked (first_state flow threads)
unmarked_first flow threads =
    let k = first flow.file.fields (length flow.file.ghosts) (length flow.file.shared) threads in
    record {
      shared = λ i. k.values (shared_mark i);
      locals = λ t v. k.values (local_mark t v);
      fields = λ f j. k.entries (mark_field f) j;
    }

unmarked_begun : (flow : Flow) (threads : ℕ) → flow_uses_marks flow ≡ false → (c : GcConfiguration)
    → first_configuration flow threads ≡ Some c → AllUnmarked c.state
unmarked_begun flow threads clean c e = go (initialised flow threads) refl e
  where
    go : (end : Option GcState) → initialised flow threads ≡ end → beginning threads end ≡ Some c → AllUnmarked c.state
    go (Some g) is e =
        let same : record { state = with_locals g 0 None; points = replicate threads None } ≡ c = cc in
        let before = unmarked_given (first_state flow threads) 0 (Some no_locals) (λ v. refl)
        (unmarked_first flow threads) in
        subst (λ (c : GcConfiguration). AllUnmarked c.state) same
        (unmarked_given g 0 None (λ v. refl)
        (unmarked_primitives _ g 0 flow.file.init (or_parts (speak_of_marks flow.file.init) _ clean).0 is before))
    go None is e = cc

unmarked_run : (flow : Flow) (threads : ℕ) → flow_uses_marks flow ≡ false → (moves : List Move) (c : GcConfiguration)
    → GcRun flow threads moves c → AllUnmarked c.state
unmarked_run flow threads clean moves c (begin e) = unmarked_begun flow threads clean c e
unmarked_run flow threads clean moves d (more {moves = ms} {c = c} run move m) =
    unmarked_move flow threads clean c d move m (unmarked_run flow threads clean ms c run)

pub runs_stay_unmarked : (flow : Flow) (threads : ℕ) → flow_uses_marks flow ≡ false → RunsStayUnmarked flow threads
runs_stay_unmarked flow threads clean = record {
  begun = unmarked_begun flow threads clean;
  by_primitive = unmarked_primitive;
  by_move = unmarked_move flow threads clean;
  run = unmarked_run flow threads clean;
  compared = unmarked_compared;
}
