-- Enumerated auxiliary fields have values of their own, through each change, each primitive and each move.
use Rattle.std.proofs.Common.{◌≡◌, ℕ, ◌<◌, Bool, true, false, List, [], ◌∷◌, Option, Some, None, length, slice_get, replicate, refl, sym, ap, ◌∙◌, subst, arith, inl, inr}
use Rattle.std.proofs.lemmas.Bool.{cases_eq}
use Rattle.plc_base.specs.Functions.{is_retire}
use Rattle.plc_lang.specs.declared.syntax.Var.{Var}
use Rattle.plc_lang.specs.declared.syntax.Var.TheVariants.{Local}
use Rattle.plc_lang.specs.declared.syntax.Arg.{Arg}
use Rattle.plc_lang.specs.declared.syntax.Arg.TheVariants as args
use Rattle.plc_lang.specs.declared.syntax.GhostVal.{GhostVal}
use Rattle.plc_lang.specs.declared.syntax.GhostVal.TheVariants as ghosts
use Rattle.plc_lang.specs.declared.syntax.Ghost.{Ghost as AuxiliaryField}
use Rattle.plc_lang.specs.declared.syntax.File.{File}
use Rattle.plc_lang.specs.declared.syntax.Primitive.{Primitive}
use Rattle.plc_lang.specs.declared.syntax.Primitive.TheVariants.{Null, Copy, New, Load, Store, StoreNull, DataSet}
use Rattle.plc_lang.specs.declared.syntax.Primitive.TheVariants.{DataLoad, DataStore, Eq, Ne, IsNull, NotNull, DataTest}
use Rattle.plc_lang.specs.declared.syntax.Primitive.TheVariants.{Refresh, RefreshLoad, RefreshStore, Mark, Unmark}
use Rattle.plc_lang.specs.declared.syntax.Primitive.TheVariants.{MarkTest, Call, Done, Active, Ghost}
use Rattle.plc_lang.specs.WellSorted.{IsWellSorted, AreWellSorted, ValueFits}
use Rattle.plc_flow.specs.declared.flow.Flow.{Flow}
use Rattle.plc_moves.specs.declared.words.Move.{Move}
use Rattle.plc_moves.specs.declared.words.Move.TheVariants.{Start, Step as Take, Return, Free}
use Rattle.plc_flow.specs.declared.flow.Step.{Step}
use Rattle.plc_flow.specs.Points.{steps_from, leaves}
use Rattle.plc_flow.specs.WellSorted.{FlowIsWellSorted}
use Rattle.plc_flow.proofs.Leaving.{filter_member}
use Rattle.plc_gc.specs.declared.slot.Slot.{Slot}
use Rattle.plc_gc.specs.declared.slot.Map.{Map}
use Rattle.plc_gc.specs.declared.slot.Map.TheVariants.{Number as data_field, Auxiliary as auxiliary_field}
use Rattle.plc_gc.specs.declared.slot.Map.TheVariants.{Retirement as retirement}
use Rattle.plc_gc.specs.State.{GcState, Locals, entry, put, put_pointer, update, update_pointer, made, with_locals}
use Rattle.plc_gc.specs.State.{no_locals, first_state, starting}
use Rattle.plc_gc.specs.Primitives.{node_at, mark_at, field_at, field_mark_at, ghost_number, after_call, goes, after}
use Rattle.plc_gc.specs.Run.{GcConfiguration, GcRun, begin, more, turn, execute, beginning, initialised, first_configuration, Moves}
use Rattle.plc_gc.specs.Ranges.{ValuesAreInRange, RunsKeepValues}
use Rattle.plc_gc.proofs.Views.{puts, updates, puts_pointer, updates_pointer, makes, gives, first}

-- ---- changes

-- every auxiliary field has at every node what it had
abbrev SameAuxiliary : GcState → GcState → Type 0
SameAuxiliary g new = (h k : ℕ) → entry new (auxiliary_field h) k ≡ entry g (auxiliary_field h) k

same_put : (g : GcState) (p : Slot) (n : ℕ) → SameAuxiliary g (put g p n)
same_put g p n h k = (puts g p n).nodes.entries (auxiliary_field h) k

same_pointer_put : (g : GcState) (t : ℕ) (p : Var) (n m : ℕ) → SameAuxiliary g (put_pointer g t p n m)
same_pointer_put g t p n m h k = (puts_pointer g t p n m).nodes.entries (auxiliary_field h) k

same_update : (g : GcState) (m : Map) (i n : ℕ) → ((h : ℕ) → auxiliary_field h ≡ m → ⊥) → SameAuxiliary g (update g m i n)
same_update g m i n other h k = (updates g m i n).other_map (auxiliary_field h) k (other h)

same_pointer_update : (g : GcState) (f i n m : ℕ) → SameAuxiliary g (update_pointer g f i n m)
same_pointer_update g f i n m h k = (updates_pointer g f i n m).other_map (auxiliary_field h) k (λ e. cc) (λ e. cc)

same_given : (g : GcState) (t : ℕ) (l : Option Locals) → SameAuxiliary g (with_locals g t l)
same_given g t l h k = (gives g t l).nodes.entries (auxiliary_field h) k

same_values : (file : File) (g new : GcState) → SameAuxiliary g new → ValuesAreInRange file g → ValuesAreInRange file new
same_values file g new same v h d named some k = (let e = same h k in let small = v h d named some k in omega arith)

same_call : (g : GcState) (t : ℕ) (b : Bool) (r : Arg) → SameAuxiliary g (after_call g t b r)
same_call g t true (args.Var p) = same_update g retirement (node_at g t p) 1 (λ h e. cc)
same_call g t true args.Null = λ h k. refl
same_call g t true args.None = λ h k. refl
same_call g t false r = λ h k. refl

-- a value that fits an enumerated field is one of its values
small_value : (t : ℕ) (d : AuxiliaryField) (v : GhostVal) → ValueFits d v → 0 < length d.values → ghost_number t v < length d.values
small_value t d (ghosts.Value v) fits some = fits
small_value t d ghosts.Me fits some = (let e = ap length fits in absurd (omega (arith, e, some)))
small_value t d ghosts.None fits some = (let e = ap length fits in absurd (omega (arith, e, some)))

written : (file : File) (g : GcState) (t i h : ℕ) (v : GhostVal) (d : AuxiliaryField) → slice_get file.ghosts h ≡ Some d → ValueFits d v → ValuesAreInRange file g → ValuesAreInRange file (update g (auxiliary_field h) i (ghost_number t v))
written file g t i h v d named fits old e x here some k =
    let u = updates g (auxiliary_field h) i (ghost_number t v) in
    let before = old e x here some k in
    elim (cases_eq e h) [
      | inl field ↦ elim (cases_eq k i) [
        | inl node ↦ (
            let same : x ≡ d = (let z = ap (slice_get file.ghosts) field in cc) in
            let now : entry (update g (auxiliary_field h) i (ghost_number t v)) (auxiliary_field e) k ≡ ghost_number t v
            = ap (λ e. entry (update g (auxiliary_field h) i (ghost_number t v)) (auxiliary_field e) k) field ∙ ap (entry (update g (auxiliary_field h) i (ghost_number t v)) (auxiliary_field h)) node ∙ u.here in
            subst (λ n. n < length x.values) (sym now) (small_value t x v (subst (λ (x : AuxiliaryField). ValueFits x v) (sym same) fits) some)
            )
        | inr ne ↦ (let z = u.other_node (auxiliary_field e) k ne in omega (arith, z, before))
      ]
      | inr ne ↦ (let z = u.other_map (auxiliary_field e) k (λ q. ne (cc)) in omega (arith, z, before))
    ]

-- ---- primitives

keeps_values : (flow : Flow) (g : GcState) (t : ℕ) (k : Primitive) → IsWellSorted flow.file k → ValuesAreInRange flow.file g → ValuesAreInRange flow.file (after g t k)
keeps_values flow g t (Null p) sorted v = same_values flow.file g _ (same_pointer_put g t _ _ _) v
keeps_values flow g t (Copy p q) sorted v = same_values flow.file g _ (same_pointer_put g t _ _ _) v
keeps_values flow g t (New p) sorted v =
    same_values flow.file g _ (λ h k. same_pointer_put (made g) t p _ _ h k ∙ (makes g).entries (auxiliary_field h) k) v
keeps_values flow g t (Load p q f) sorted v = same_values flow.file g _ (same_pointer_put g t _ _ _) v
keeps_values flow g t (Store p f q) sorted v = same_values flow.file g _ (same_pointer_update g f.0 _ _ _) v
keeps_values flow g t (StoreNull p f) sorted v = same_values flow.file g _ (same_pointer_update g f.0 _ _ _) v
keeps_values flow g t (DataSet x e) sorted v = same_values flow.file g _ (same_put g _ _) v
keeps_values flow g t (DataLoad x q f) sorted v = same_values flow.file g _ (same_put g _ _) v
keeps_values flow g t (DataStore p f e) sorted v = same_values flow.file g _ (same_update g (data_field f.0) _ _ (λ h e. cc)) v
keeps_values flow g t (Eq p q) sorted v = v
keeps_values flow g t (Ne p q) sorted v = v
keeps_values flow g t (IsNull p) sorted v = v
keeps_values flow g t (NotNull p) sorted v = v
keeps_values flow g t (DataTest r x e) sorted v = v
keeps_values flow g t (Refresh p q) sorted v =
    same_values flow.file g _ (same_pointer_put g t (Local p) (node_at g t q) (mark_at g t q)) v
keeps_values flow g t (RefreshLoad p q f) sorted v =
    same_values flow.file g _ (same_pointer_put g t (Local p) (field_at g t q f.0) (field_mark_at g t q f.0)) v
keeps_values flow g t (RefreshStore p f q) sorted v = same_values flow.file g _ (same_pointer_update g f.0 _ _ _) v
keeps_values flow g t (Mark p q) sorted v = same_values flow.file g _ (same_pointer_put g t _ _ _) v
keeps_values flow g t (Unmark p q) sorted v = same_values flow.file g _ (same_pointer_put g t _ _ _) v
keeps_values flow g t (MarkTest p m) sorted v = v
keeps_values flow g t (Call f r) sorted v = same_values flow.file g _ (same_call g t (is_retire f) r) v
keeps_values flow g t (Done f) sorted v = v
keeps_values flow g t (Active p) sorted v = v
keeps_values flow g t (Ghost p h x) sorted v = written flow.file g t (node_at g t p) h x sorted.0 sorted.1 sorted.2 v

executed_values : (flow : Flow) (g new : GcState) (t : ℕ) (ps : List Primitive) → AreWellSorted flow.file ps → execute g t ps ≡ Some new → ValuesAreInRange flow.file g → ValuesAreInRange flow.file new
executed_values flow g new t [] sorted e v = let same : g ≡ new = cc in subst (ValuesAreInRange flow.file) same v
executed_values flow g new t (p ∷ ps) sorted e v = go (goes g t p) e (λ rest. executed_values flow (after g t p) new t ps sorted.1 rest (keeps_values flow g t p sorted.0 v))
  where
    go : (b : Bool) → turn b (execute (after g t p) t ps) ≡ Some new → (execute (after g t p) t ps ≡ Some new → ValuesAreInRange flow.file new) → ValuesAreInRange flow.file new
    go true e next = next e
    go false e next = cc

-- ---- moves and runs

-- the step that a thread takes is one of the flow
its_sorts : (flow : Flow) → FlowIsWellSorted flow → (p nth : ℕ) (s : Step) → slice_get (steps_from flow p) nth ≡ Some s → AreWellSorted flow.file s.prims
its_sorts flow sorted p nth s there = let m = filter_member (leaves p) flow.steps nth s there in (sorted.steps m.0 s m.1).each

moved_values : (flow : Flow) (threads : ℕ) → FlowIsWellSorted flow → (c d : GcConfiguration) (move : Move) → Moves flow threads c move d → ValuesAreInRange flow.file c.state → ValuesAreInRange flow.file d.state
moved_values flow threads sorted c d (Start t op args) m v = subst (λ (d : GcConfiguration). ValuesAreInRange flow.file d.state) (sym m.7) (same_values flow.file c.state _ (same_given c.state t (Some (starting m.0 args))) v)
moved_values flow threads sorted c d (Take t nth addr) m v = subst (λ (d : GcConfiguration). ValuesAreInRange flow.file d.state) (sym m.5) (executed_values flow c.state m.2 t m.1.prims (its_sorts flow sorted m.0.at nth m.1 m.3.leaves_there) m.4 v)
moved_values flow threads sorted c d (Return t) m v = subst (λ (d : GcConfiguration). ValuesAreInRange flow.file d.state) (sym m.6) (same_values flow.file c.state _ (same_given c.state t None) v)
moved_values flow threads sorted c d (Free a) m v = subst (λ (d : GcConfiguration). ValuesAreInRange flow.file d.state) (sym m) v

first_values : (flow : Flow) (threads : ℕ) → ValuesAreInRange flow.file (first_state flow threads)
first_values flow threads h d named some k = (let e = (first flow.file.fields (length flow.file.ghosts) (length flow.file.shared) threads).entries (auxiliary_field h) k in omega (arith, e, some))

begun_values : (flow : Flow) (threads : ℕ) → FlowIsWellSorted flow → (c : GcConfiguration) → first_configuration flow threads ≡ Some c → ValuesAreInRange flow.file c.state
begun_values flow threads sorted c e = go (initialised flow threads) refl e
  where
    go : (end : Option GcState) → initialised flow threads ≡ end → beginning threads end ≡ Some c → ValuesAreInRange flow.file c.state
    go (Some g) is e =
        let same : record { state = with_locals g 0 None; points = replicate threads None } ≡ c = cc in
        let before = same_values flow.file (first_state flow threads) _ (same_given (first_state flow threads) 0 (Some no_locals)) (first_values flow threads) in
        subst (λ (c : GcConfiguration). ValuesAreInRange flow.file c.state) same
        (same_values flow.file g _ (same_given g 0 None) (executed_values flow _ g 0 flow.file.init sorted.file.init.each is before))
    go None is e = cc

run_values : (flow : Flow) (threads : ℕ) → FlowIsWellSorted flow → (moves : List Move) (c : GcConfiguration) → GcRun flow threads moves c → ValuesAreInRange flow.file c.state
run_values flow threads sorted moves c (begin e) = begun_values flow threads sorted c e
run_values flow threads sorted moves d (more {moves = ms} {c = c} run move m) = moved_values flow threads sorted c d move m (run_values flow threads sorted ms c run)

pub runs_keep_values : (flow : Flow) (threads : ℕ) → FlowIsWellSorted flow → RunsKeepValues flow threads
runs_keep_values flow threads sorted = record {
  begun = begun_values flow threads sorted;
  by_primitive = keeps_values flow;
  by_move = moved_values flow threads sorted;
  run = run_values flow threads sorted;
}
