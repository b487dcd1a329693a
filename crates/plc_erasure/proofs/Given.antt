-- Erasure where locals come and go, and before anything happened.
use Rattle.std.proofs.Common.{◌≡◌, ℕ, Bool, true, ◌==◌, List, [], Option, Some, None, get_or, length, map, refl, sym}
use Rattle.std.proofs.Common.{ap, ◌∙◌, inl, inr}
use Rattle.std.proofs.lemmas.Bool.{cases_eq}
use Rattle.std.specs.Option.{unwrap_or}
use Rattle.plc_lang.specs.declared.syntax.Op.{Op}
use Rattle.plc_flow.specs.declared.flow.Flow.{Flow}
use Rattle.plc_mem.specs.State.{State, Place, at_shared, at_local, at_field, Locals, null_cell, at, value_at, is_used, with_locals, locals_of, no_locals, starting, first_state, fresh_state}
use Rattle.plc_mem.specs.Laws.{is_there}
use Rattle.plc_lang.specs.Fields.{is_pointer_field}
use Rattle.plc_base.proofs.Tables.{get-replicate}
use Rattle.plc_mem.proofs.Views.{gives, fresh_is_null, fresh_is_unused}
use Rattle.plc_gc.specs.declared.slot.Slot.TheVariants.{Shared as in_shared, Local as in_local, Data as in_data}
use Rattle.plc_gc.specs.declared.slot.Slot.TheVariants.{SharedMark as shared_mark, LocalMark as local_mark}
use Rattle.plc_gc.specs.declared.slot.Map.TheVariants.{Pointer as pointer_field, Mark as mark_field}
use Rattle.plc_gc.specs.declared.slot.Map.TheVariants.{Number as data_field, Retirement as retirement}
use Rattle.plc_gc.specs.declared.slot.Pointer.{Pointer}
use Rattle.plc_gc.specs.State.{GcState, value, null_pointer, with_locals as gc_with_locals}
use Rattle.plc_gc.specs.State.{Locals as GcLocals, no_locals as gc_no_locals}
use Rattle.plc_gc.specs.State.{starting as gc_starting, first_state as gc_first_state}
use Rattle.plc_gc.specs.Laws.{IsFirst}
use Rattle.plc_gc.proofs.Views.{gives as gc_gives, first}
use Rattle.plc_erasure.specs.Trace.{Trace, last_node, no_trace}
use Rattle.plc_erasure.specs.Erasure.{node_in, mark_in, IsErased}
use Rattle.plc_erasure.proofs.Changes.{Alike, null_alike, alike, AlikeAt, alike_at}

-- the locals that a thread gets in both
pub record SameLocals (trace : Trace) (l : Option Locals) (m : Option GcLocals) : Type 0 where
  pub pointers : (v : ℕ) → Alike trace (get_or (unwrap_or l no_locals).pointers v null_cell)
      (get_or (unwrap_or m gc_no_locals).pointers v null_pointer).node
      (get_or (unwrap_or m gc_no_locals).pointers v null_pointer).mark
  pub values : (x : ℕ) → get_or (unwrap_or m gc_no_locals).values x 0 ≡ get_or (unwrap_or l no_locals).values x 0

pub erased_given : (trace : Trace) (s : State) (g : GcState) (t : ℕ) (l : Option Locals) (m : Option GcLocals) → IsErased trace s g → SameLocals trace l m → IsErased trace (with_locals s t l) (gc_with_locals g t m)
erased_given trace s g t l m er same =
    let new = with_locals s t l in
    let after = gc_with_locals g t m in
    let w = gives s t l in
    let u = gc_gives g t m in
    let places : (q : Place) → is_there new q ≡ true → AlikeAt trace new after q = elim [
      | at_shared i ↦ λ there. alike (w.shared i) (u.shared i) (u.shared_marks i) (alike_at er (at_shared i) refl)
      | at_local x v ↦ λ there. elim (cases_eq x t) [
        | inl e ↦ alike (ap (λ x. at new (at_local x v)) e ∙ w.pointers v)
            (ap (λ x. value after (in_local x v)) e ∙ u.pointers v)
            (ap (λ x. value after (local_mark x v)) e ∙ u.marks v) (same.pointers v)
        | inr ne ↦ alike (w.others x v ne) (u.others x v ne) (u.other_marks x v ne) (alike_at er (at_local x v) refl)
      ]
      | at_field b f ↦ λ there. alike (w.fields b f) (u.nodes.entries (pointer_field f) (last_node trace.log b))
          (u.nodes.entries (mark_field f) (last_node trace.log b))
          (alike_at er (at_field b f) (sym (w.addresses.used b) ∙ there))
    ] in
    record {
      count = u.nodes.count ∙ er.count;
      pointers = λ q there. (places q there).shows;
      marks = λ q there. (places q there).mark;
      locals = λ x y. elim (cases_eq x t) [
        | inl e ↦ ap (λ x. value after (in_data x y)) e ∙ u.values y ∙ same.values y ∙ sym (ap (λ x. value_at new x y) e ∙ w.values y)
        | inr ne ↦ u.other_values x y ne ∙ er.locals x y ∙ sym (w.other_values x y ne)
      ];
      fields = λ b f there. u.nodes.entries (data_field f) (last_node trace.log b) ∙ er.fields b f (sym (w.addresses.used b) ∙ there) ∙ sym (w.field_values b f);
      gone = λ k e. u.nodes.entries retirement k ∙ er.gone k e;
      retired = λ b there. w.addresses.retired b ∙ er.retired b (sym (w.addresses.used b) ∙ there) ∙ ap (λ x. x == 1) (sym (u.nodes.entries retirement (last_node trace.log b)));
      allocated = λ b there. er.allocated b (sym (w.addresses.used b) ∙ there);
    }

pub same_none : (trace : Trace) → SameLocals trace None None
same_none trace = record { pointers = λ v. null_alike trace; values = λ x. refl }

pub same_empty : (trace : Trace) → SameLocals trace (Some no_locals) (Some gc_no_locals)
same_empty trace = record { pointers = λ v. null_alike trace; values = λ x. refl }

pub same_starting : (trace : Trace) (o : Op) (args : List ℕ) → SameLocals trace (Some (starting o args)) (Some (gc_starting o args))
same_starting trace o args = record {
  pointers = λ v. (
      let null = get-replicate null_pointer _ v in
      alike (get-replicate null_cell _ v) (ap (λ (p : Pointer). p.node) null) (ap (λ (p : Pointer). p.mark) null)
      (null_alike trace)
      );
  values = λ x. refl;
}

-- ---- before anything happened

fresh_value : (fields : List Bool) (shared threads t x : ℕ) → value_at (fresh_state fields shared threads) t x ≡ 0
unfolding value_at locals_of
fresh_value fields shared threads t x = ap (λ l. get_or (unwrap_or l no_locals).values x 0) (get-replicate None threads t)

pub erased_first : (flow : Flow) (threads : ℕ) → IsErased no_trace (first_state flow threads) (gc_first_state flow threads)
erased_first flow threads =
    let fields = map is_pointer_field flow.file.fields in
    record {
      count = begun.count;
      pointers = λ p there. (places p).shows;
      marks = λ p there. (places p).mark;
      locals = λ t x. begun.values (in_data t x) ∙ sym (fresh_value fields (length flow.file.shared) threads t x);
      fields = λ a f used. unused a used;
      gone = λ j e. cc;
      retired = λ a used. unused a used;
      allocated = λ a used. unused a used;
    }
  where
    unused : {X : Type 0} (a : ℕ) → is_used (first_state flow threads) a ≡ true → X
    unused a used = let e = fresh_is_unused (map is_pointer_field flow.file.fields) (length flow.file.shared) threads a in cc

    begun : IsFirst (gc_first_state flow threads)
    begun = first flow.file.fields (length flow.file.ghosts) (length flow.file.shared) threads

    no_node : (p : Place) → node_in (gc_first_state flow threads) [] p ≡ 0
    no_node (at_shared i) = begun.values (in_shared i)
    no_node (at_local t v) = begun.values (in_local t v)
    no_node (at_field a f) = begun.entries (pointer_field f) 0

    no_mark : (p : Place) → mark_in (gc_first_state flow threads) [] p ≡ 0
    no_mark (at_shared i) = begun.values (shared_mark i)
    no_mark (at_local t v) = begun.values (local_mark t v)
    no_mark (at_field a f) = begun.entries (mark_field f) 0

    places : (p : Place) → AlikeAt no_trace (first_state flow threads) (gc_first_state flow threads) p
    places p =
        alike (fresh_is_null (map is_pointer_field flow.file.fields) (length flow.file.shared) threads p) (no_node p)
        (no_mark p)
        (null_alike no_trace)
