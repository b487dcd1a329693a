-- Erasure by one primitive that is no race and isn't blocked: it isn't blocked in the garbage-collected state either, and the states stay related.
use Rattle.std.specs.Prelude.{if◌then◌else◌}
use Rattle.std.proofs.Common.{◌≡◌, ℕ, Bool, true, false, not, ◌&&◌, ◌==◌, None, refl, sym, ap, ap₂, ◌∙◌, subst, inl, inr, ◌⊎◌}
use Rattle.std.proofs.lemmas.Bool.{cases_eq, cases_Bool, eq-eqb, eqb-true, ne_eqb, and_parts, not-true, false≢true}
use Rattle.plc_lang.specs.declared.syntax.Var.{Var}
use Rattle.plc_lang.specs.declared.syntax.Var.TheVariants.{Local}
use Rattle.plc_lang.specs.declared.syntax.Num.{Num}
use Rattle.plc_lang.specs.declared.syntax.Num.TheVariants.{Lit, Local as DataLocal}
use Rattle.plc_lang.specs.declared.syntax.Arg.{Arg}
use Rattle.plc_lang.specs.declared.syntax.Arg.TheVariants as args
use Rattle.plc_lang.specs.declared.syntax.Primitive.{Primitive}
use Rattle.plc_lang.specs.declared.syntax.Primitive.TheVariants.{Null, Copy, New, Load, Store, StoreNull, DataSet}
use Rattle.plc_lang.specs.declared.syntax.Primitive.TheVariants.{DataLoad, DataStore, Eq, Ne, IsNull, NotNull, DataTest}
use Rattle.plc_lang.specs.declared.syntax.Primitive.TheVariants.{Refresh, RefreshLoad, RefreshStore, Mark, Unmark}
use Rattle.plc_lang.specs.declared.syntax.Primitive.TheVariants.{MarkTest, Call, Done, Active, Ghost}
use Rattle.plc_base.specs.Functions.{is_retire}
use Rattle.plc_lang.specs.Comparison.{compares}
use Rattle.plc_mem.specs.declared.cell.Cell.{Cell}
use Rattle.plc_base.specs.Booleans.{same_bool}
use Rattle.plc_mem.specs.State.{State, at_field, null_cell, fresh_cell, marked_cell, is_null, same_pointer, put}
use Rattle.plc_mem.specs.State.{put_value, field_value, put_field_value, number_of, is_used, with_node, with_retired}
use Rattle.plc_mem.specs.Primitives.{cell_at, field_at, comparison, race_of_call, goes_call, after_call, race_of, goes, after}
use Rattle.plc_mem.specs.Coherence.{CellCoherent, IsCoherent}
use Rattle.plc_gc.specs.declared.slot.Slot.TheVariants.{Data as in_data}
use Rattle.plc_gc.specs.declared.slot.Map.TheVariants.{Pointer as pointer_field, Mark as mark_field}
use Rattle.plc_gc.specs.declared.slot.Map.TheVariants.{Number as data_field, Retirement as retirement}
use Rattle.plc_gc.specs.State.{GcState, entry, count, put as gc_put, update, update_pointer, made}
use Rattle.plc_gc.specs.State.{number_of as gc_number_of}
use Rattle.plc_gc.specs.Primitives.{field_mark_at, same_pointer as gc_same_pointer}
use Rattle.plc_gc.specs.Primitives.{node_at, field_at as gc_field_at, some_node, ghost_number, goes_call as gc_goes_call, after_call as gc_after_call, goes as gc_goes, after as gc_after}
use Rattle.plc_erasure.specs.Trace.{Trace, last_node, noted}
use Rattle.plc_erasure.specs.Erasure.{mark_number, Shows, IsErased}
use Rattle.plc_erasure.proofs.Nodes.{node_apart}
use Rattle.plc_erasure.proofs.Changes.{Alike, null_alike, alike_at, seen, shown, node_made, erased_variable}
use Rattle.plc_erasure.proofs.Changes.{erased_field, erased_data, erased_data_field, erased_auxiliary, erased_retire}
use Rattle.plc_erasure.proofs.Allocation.{longer, erased_made, fresh_alike}
use Rattle.plc_mem.proofs.Coherence.{valid_if, retired_if}

-- ---- what the absence of a race says

both_valid : (c d : Cell) → comparison c d ≡ None → (c.valid ≡ true) × (d.valid ≡ true)
both_valid c d e = go (c.valid && d.valid) refl e
  where
    go : (b : Bool) → (c.valid && d.valid) ≡ b → comparison c d ≡ None → (c.valid ≡ true) × (d.valid ≡ true)
    go true is e = and_parts c.valid d.valid is
    go false is e = let contrary = rw is at e in cc

-- ---- a valid pointer that isn't null leads to the node of a used address

record Leads (trace : Trace) (s : State) (g : GcState) (t : ℕ) (v : Var) : Type 0 where
  used : is_used s (cell_at s t v).number ≡ true
  node : node_at g t v ≡ last_node trace.log (cell_at s t v).number
  some : some_node g t v ≡ true

leads : (trace : Trace) (s : State) (g : GcState) (t : ℕ) (v : Var) → IsCoherent s → IsErased trace s g → (cell_at s t v).valid ≡ true → not (is_null (cell_at s t v)) ≡ true → Leads trace s g t v
leads trace s g t v k er valid may =
    let sh = shown trace s g er t v in
    record {
      used = (k.cells _).used valid (not-true _ may);
      node = sh.valid valid (not-true _ may);
      some = ap not (sym sh.null) ∙ may;
    }

loaded : (trace : Trace) (s : State) (g : GcState) (t : ℕ) (q : Var) (f : ℕ) → IsErased trace s g → Leads trace s g t q
    → Alike trace (field_at s t q f) (gc_field_at g t q f) (field_mark_at g t q f)
loaded trace s g t q f er l =
    subst (λ k. Alike trace (field_at s t q f) (entry g (pointer_field f) k) (entry g (mark_field f) k)) (sym l.node)
    (alike_at er (at_field (cell_at s t q).number f) l.used)

stored : (trace : Trace) (s : State) (g : GcState) (t : ℕ) (p : Var) (f : ℕ) (c : Cell) (n m : ℕ) → IsErased trace s g
    → Leads trace s g t p → Alike trace c n m
    → IsErased trace (put s (at_field (cell_at s t p).number f) c) (update_pointer g f (node_at g t p) n m)
stored trace s g t p f c n m er l al =
    subst (λ k. IsErased trace (put s (at_field (cell_at s t p).number f) c) (update_pointer g f k n m)) (sym l.node)
    (erased_field trace s g (cell_at s t p).number f c n m er l.used al)

-- ---- marks

-- another mark in the place of a pointer's own
marked : (trace : Trace) (c : Cell) (n m : ℕ) (b : Bool) → Alike trace c n m
    → Alike trace (marked_cell b c) n (mark_number b)
marked trace c n m b al = record {
  shows = record { null = al.shows.null; valid = al.shows.valid; invalid = al.shows.invalid };
  mark = refl;
}

-- a test of the mark as a number
mark_tested : (b m : Bool) (n : ℕ) → n ≡ mark_number b → (if m then n == 1 else not (n == 1)) ≡ same_bool b m
mark_tested b m n e = ap (λ n. if m then n == 1 else not (n == 1)) e ∙ by_bit b m
  where
    by_bit : (b m : Bool) → (if m then mark_number b == 1 else not (mark_number b == 1)) ≡ same_bool b m
    by_bit true true = refl
    by_bit true false = refl
    by_bit false true = refl
    by_bit false false = refl

-- two marks as numbers
marks_compared : (b c : Bool) (m n : ℕ) → m ≡ mark_number b → n ≡ mark_number c → (m == n) ≡ same_bool b c
marks_compared b c m n e f = ap₂ (λ m n. m == n) e f ∙ by_bits b c
  where
    by_bits : (b c : Bool) → (mark_number b == mark_number c) ≡ same_bool b c
    by_bits true true = refl
    by_bits true false = refl
    by_bits false true = refl
    by_bits false false = refl

-- ---- data

number_same : (trace : Trace) (s : State) (g : GcState) (t : ℕ) (e : Num) → IsErased trace s g → gc_number_of g t e ≡ number_of s t e
number_same trace s g t (Lit n) er = refl
number_same trace s g t (DataLocal x) er = er.locals t x

-- ---- two valid pointers have one number exactly where they have one node, so they are equal in both or in neither

same_nodes : (trace : Trace) (s : State) (g : GcState) (c d : Cell) (n m : ℕ) → IsErased trace s g → CellCoherent s c
    → CellCoherent s d → Shows trace c n → Shows trace d m → c.valid ≡ true → d.valid ≡ true
    → (n == m) ≡ (c.number == d.number)
same_nodes trace s g c d n m er kc kd shc shd vc vd = go (cases_eq c.number d.number) (cases_Bool (is_null c)) (cases_Bool (is_null d))
  where
    go : ((c.number ≡ d.number) ⊎ (c.number ≡ d.number → ⊥)) → ((is_null c ≡ true) ⊎ (is_null c ≡ false))
        → ((is_null d ≡ true) ⊎ (is_null d ≡ false)) → (n == m) ≡ (c.number == d.number)
    go (inl e) (inl zc) zd = eq-eqb n m (eqb-true n 0 (sym shc.null ∙ zc) ∙ sym (eqb-true m 0 (sym shd.null ∙ ap (λ x. x == 0) (sym e) ∙ zc))) ∙ sym (eq-eqb c.number d.number e)
    go (inl e) (inr sc) zd = eq-eqb n m (shc.valid vc sc ∙ ap (last_node trace.log) e ∙ sym (shd.valid vd (ap (λ x. x == 0) (sym e) ∙ sc))) ∙ sym (eq-eqb c.number d.number e)
    go (inr ne) (inl zc) (inl zd) = absurd (ne (eqb-true c.number 0 zc ∙ sym (eqb-true d.number 0 zd)))
    go (inr ne) (inl zc) (inr sd) = ne_eqb n m (λ same. false≢true (sym (sym shd.null ∙ sd) ∙ ap (λ x. x == 0) (sym same) ∙ sym shc.null ∙ zc)) ∙ sym (ne_eqb c.number d.number ne)
    go (inr ne) (inr sc) (inl zd) = ne_eqb n m (λ same. false≢true (sym (sym shc.null ∙ sc) ∙ ap (λ x. x == 0) same ∙ sym shd.null ∙ zd)) ∙ sym (ne_eqb c.number d.number ne)
    go (inr ne) (inr sc) (inr sd) = ne_eqb n m (λ same. ne (node_apart trace.log c.number d.number (er.allocated c.number (kc.used vc sc)) (sym (shc.valid vc sc) ∙ same ∙ shd.valid vd sd))) ∙ sym (ne_eqb c.number d.number ne)

same_pointers : (trace : Trace) (s : State) (g : GcState) (t : ℕ) (p q : Var) → IsCoherent s → IsErased trace s g
    → comparison (cell_at s t p) (cell_at s t q) ≡ None
    → gc_same_pointer g t p q ≡ same_pointer (cell_at s t p) (cell_at s t q)
same_pointers trace s g t p q k er fine =
    let valid = both_valid (cell_at s t p) (cell_at s t q) fine in
    let a = seen trace s g er t p in
    let b = seen trace s g er t q in
    ap₂ (λ x y. x && y)
    (same_nodes trace s g (cell_at s t p) (cell_at s t q) _ _ er (k.cells _)
    (k.cells _) a.shows b.shows valid.0 valid.1)
    (marks_compared (cell_at s t p).mark (cell_at s t q).mark _ _ a.mark b.mark)

-- ---- primitives

-- what is shown of each primitive
abbrev Keeps : Trace → State → GcState → ℕ → ℕ → Primitive → Type 0
Keeps trace s g t a k = (gc_goes g t k ≡ true) × IsErased (record { log = noted trace.log a k; gone = trace.gone }) (after s t a k) (gc_after g t k)

call_erased : (trace : Trace) (s : State) (g : GcState) (t : ℕ) (b : Bool) (r : Arg) → race_of_call s t b r ≡ None → goes_call s t b r ≡ true → IsCoherent s → IsErased trace s g
    → (gc_goes_call g t b r ≡ true) × IsErased trace (after_call s t b r) (gc_after_call g t b r)
call_erased trace s g t true (args.Var p) fine may k er =
    let l = leads trace s g t p k er (retired_if s (cell_at s t p) fine) may in
    (l.some, subst (λ j. IsErased trace (with_retired s (cell_at s t p).number) (update g retirement j 1)) (sym l.node) (erased_retire trace s g (cell_at s t p).number er l.used))
call_erased trace s g t true args.Null fine may k er = (refl, er)
call_erased trace s g t true args.None fine may k er = (refl, er)
call_erased trace s g t false r fine may k er = (refl, er)

pub erased_primitive : (trace : Trace) (s : State) (g : GcState) (t a : ℕ) (k : Primitive) → race_of s t k ≡ None → goes s t a k ≡ true → IsCoherent s → IsErased trace s g → Keeps trace s g t a k
erased_primitive trace s g t a (Null p) fine may k er =
    (refl, erased_variable trace s g t p null_cell 0 0 er (null_alike trace))
erased_primitive trace s g t a (Copy p q) fine may k er =
    (refl, erased_variable trace s g t p (cell_at s t q) _ _ er (seen trace s g er t q))
erased_primitive trace s g t a (New p) fine may k er =
    let parts = and_parts (not (a == 0)) (not (is_used s a)) may in (
      refl,
      erased_variable (longer trace a) (with_node s a) (made g) t p (fresh_cell a) (count g) 0
          (erased_made trace s g a k er (not-true _ parts.1)) (fresh_alike trace s g a er (not-true _ parts.0)),
    )
erased_primitive trace s g t a (Load p q f) fine may k er =
    let l = leads trace s g t q k er (valid_if (cell_at s t q) fine) may in
    (l.some, erased_variable trace s g t p (field_at s t q f.0) _ _ er (loaded trace s g t q f.0 er l))
erased_primitive trace s g t a (Store p f q) fine may k er =
    let l = leads trace s g t p k er (valid_if (cell_at s t p) fine) may in
    (l.some, stored trace s g t p f.0 (cell_at s t q) _ _ er l (seen trace s g er t q))
erased_primitive trace s g t a (StoreNull p f) fine may k er =
    let l = leads trace s g t p k er (valid_if (cell_at s t p) fine) may in
    (l.some, stored trace s g t p f.0 null_cell 0 0 er l (null_alike trace))
erased_primitive trace s g t a (DataSet x e) fine may k er =
    (refl, subst (λ n. IsErased trace (put_value s t x (number_of s t e)) (gc_put g (in_data t x) n)) (sym (number_same trace s g t e er)) (erased_data trace s g t x (number_of s t e) er))
erased_primitive trace s g t a (DataLoad x q f) fine may k er =
    let l = leads trace s g t q k er (valid_if (cell_at s t q) fine) may in
    let read : entry g (data_field f.0) (node_at g t q) ≡ field_value s (cell_at s t q).number f.0 = ap (entry g (data_field f.0)) l.node ∙ er.fields (cell_at s t q).number f.0 l.used in
    (l.some, subst (λ n. IsErased trace (put_value s t x (field_value s (cell_at s t q).number f.0)) (gc_put g (in_data t x) n)) (sym read) (erased_data trace s g t x (field_value s (cell_at s t q).number f.0) er))
erased_primitive trace s g t a (DataStore p f e) fine may k er =
    let l = leads trace s g t p k er (valid_if (cell_at s t p) fine) may in
    let new = put_field_value s (cell_at s t p).number f.0 (number_of s t e) in (
      l.some,
      subst (λ j. IsErased trace new (update g (data_field f.0) j (gc_number_of g t e))) (sym l.node)
          (subst (λ n. IsErased trace new (update g (data_field f.0) (last_node trace.log (cell_at s t p).number) n)) (sym (number_same trace s g t e er))
          (erased_data_field trace s g (cell_at s t p).number f.0 (number_of s t e) er l.used)),
    )
erased_primitive trace s g t a (Eq p q) fine may k er = (same_pointers trace s g t p q k er fine ∙ may, er)
erased_primitive trace s g t a (Ne p q) fine may k er = (ap not (same_pointers trace s g t p q k er fine) ∙ may, er)
erased_primitive trace s g t a (IsNull p) fine may k er = (sym (shown trace s g er t p).null ∙ may, er)
erased_primitive trace s g t a (NotNull p) fine may k er = (ap not (sym (shown trace s g er t p).null) ∙ may, er)
erased_primitive trace s g t a (DataTest r x e) fine may k er = (ap₂ (compares r) (er.locals t x) (number_same trace s g t e er) ∙ may, er)
erased_primitive trace s g t a (Refresh p q) fine may k er =
    (refl, erased_variable trace s g t (Local p) (cell_at s t q) _ _ er (seen trace s g er t q))
erased_primitive trace s g t a (RefreshLoad p q f) fine may k er =
    let parts = and_parts _ _ may in
    let l = leads trace s g t q k er (valid_if (cell_at s t q) fine) parts.0 in
    (l.some, erased_variable trace s g t (Local p) (field_at s t q f.0) _ _ er (loaded trace s g t q f.0 er l))
erased_primitive trace s g t a (RefreshStore p f q) fine may k er =
    let parts = and_parts _ _ may in
    let l = leads trace s g t p k er (valid_if (cell_at s t p) fine) parts.0 in
    (l.some, stored trace s g t p f.0 (cell_at s t q) _ _ er l (seen trace s g er t q))
erased_primitive trace s g t a (Mark p q) fine may k er = (
  refl,
  erased_variable trace s g t p (marked_cell true (cell_at s t q)) _ 1 er
      (marked trace _ _ _ true (seen trace s g er t q)),
)
erased_primitive trace s g t a (Unmark p q) fine may k er = (
  refl,
  erased_variable trace s g t p (marked_cell false (cell_at s t q)) _ 0 er
      (marked trace _ _ _ false (seen trace s g er t q)),
)
erased_primitive trace s g t a (MarkTest p m) fine may k er =
    (mark_tested (cell_at s t p).mark m _ (seen trace s g er t p).mark ∙ may, er)
erased_primitive trace s g t a (Call f r) fine may k er = call_erased trace s g t (is_retire f) r fine may k er
erased_primitive trace s g t a (Done f) fine may k er = (refl, er)
erased_primitive trace s g t a (Active p) fine may k er = (refl, er)
erased_primitive trace s g t a (Ghost p h v) fine may k er = (refl, erased_auxiliary trace s g h (node_at g t p) (ghost_number t v) er (node_made trace s g er (cell_at s t p) (node_at g t p) (shown trace s g er t p)))
