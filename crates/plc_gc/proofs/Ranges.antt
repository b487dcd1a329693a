-- What every state of a garbage-collected run has, through each change, each primitive and each move, by the laws of the state alone.
use Rattle.std.proofs.Common.{◌≡◌, ℕ, ◌<◌, ◌≤◌, Bool, true, false, List, [], ◌∷◌, Option, Some, None, get_or, replicate, length, refl, sym, ap, ◌∙◌, subst, arith, inl, inr, ◌⊎◌}
use Rattle.std.proofs.lemmas.Bool.{cases_eq, not-true, eq-eqb, false≢true}
use Rattle.std.specs.Option.{unwrap_or}
use Rattle.plc_lang.specs.declared.syntax.Var.{Var}
use Rattle.plc_lang.specs.declared.syntax.Var.TheVariants.{Shared, Local}
use Rattle.plc_lang.specs.declared.syntax.Arg.{Arg}
use Rattle.plc_lang.specs.declared.syntax.Arg.TheVariants as args
use Rattle.plc_lang.specs.declared.syntax.Primitive.{Primitive}
use Rattle.plc_lang.specs.declared.syntax.Primitive.TheVariants.{Null, Copy, New, Load, Store, StoreNull, DataSet}
use Rattle.plc_lang.specs.declared.syntax.Primitive.TheVariants.{DataLoad, DataStore, Eq, Ne, IsNull, NotNull, DataTest}
use Rattle.plc_lang.specs.declared.syntax.Primitive.TheVariants.{Refresh, RefreshLoad, RefreshStore, Mark, Unmark}
use Rattle.plc_lang.specs.declared.syntax.Primitive.TheVariants.{MarkTest, Call, Done, Active, Ghost}
use Rattle.plc_base.specs.Functions.{is_retire}
use Rattle.plc_flow.specs.declared.flow.Flow.{Flow}
use Rattle.plc_moves.specs.declared.words.Move.{Move}
use Rattle.plc_moves.specs.declared.words.Move.TheVariants.{Start, Step as Take, Return, Free}
use Rattle.plc_base.proofs.Tables.{get-replicate}
use Rattle.plc_gc.specs.declared.slot.Slot.{Slot}
use Rattle.plc_gc.specs.declared.slot.Slot.TheVariants.{Shared as in_shared, Local as in_local}
use Rattle.plc_gc.specs.declared.slot.Slot.TheVariants.{SharedMark as shared_mark, LocalMark as local_mark}
use Rattle.plc_gc.specs.declared.slot.Slot.TheVariants.{Data as in_data}
use Rattle.plc_gc.specs.declared.slot.Map.{Map}
use Rattle.plc_gc.specs.declared.slot.Pointer.{Pointer}
use Rattle.plc_gc.specs.declared.slot.Map.TheVariants.{Pointer as pointer_field, Mark as mark_field}
use Rattle.plc_gc.specs.declared.slot.Map.TheVariants.{Number as data_field, Auxiliary as auxiliary_field}
use Rattle.plc_gc.specs.declared.slot.Map.TheVariants.{Retirement as retirement}
use Rattle.plc_gc.specs.State.{GcState, Locals, null_pointer, value, entry, count, put, put_pointer, update}
use Rattle.plc_gc.specs.State.{update_pointer, made, slot, mark_slot, with_locals, no_locals, starting}
use Rattle.plc_gc.specs.State.{first_state}
use Rattle.plc_gc.specs.Primitives.{node_at, mark_at, some_node, goes_call, after_call, goes, after}
use Rattle.plc_gc.specs.Run.{GcConfiguration, GcRun, begin, more, turn, execute, beginning, initialised, first_configuration, Moves}
use Rattle.plc_gc.specs.Ranges.{IsInRange, RunsStayInRange}
use Rattle.plc_gc.proofs.Views.{puts, updates, makes, gives, unmade, first}

-- ---- places and maps are told apart

pub cases_slot : (p q : Slot) → (p ≡ q) ⊎ (p ≡ q → ⊥)
cases_slot (in_shared i) (in_shared j) = elim (cases_eq i j) [ inl e ↦ inl (ap in_shared e) | inr ne ↦ inr (λ e. ne (cc)) ]
cases_slot (in_local t v) (in_local u w) = elim (cases_eq t u) [ inl e ↦ elim (cases_eq v w) [ inl f ↦ inl (cc) | inr ne ↦ inr (λ e. ne (cc)) ] | inr ne ↦ inr (λ e. ne (cc)) ]
cases_slot (in_data t v) (in_data u w) = elim (cases_eq t u) [ inl e ↦ elim (cases_eq v w) [ inl f ↦ inl (cc) | inr ne ↦ inr (λ e. ne (cc)) ] | inr ne ↦ inr (λ e. ne (cc)) ]
cases_slot (shared_mark i) (shared_mark j) =
    elim (cases_eq i j) [ inl e ↦ inl (ap shared_mark e) | inr ne ↦ inr (λ e. ne (cc)) ]
cases_slot (local_mark t v) (local_mark u w) = elim (cases_eq t u) [
  | inl e ↦ elim (cases_eq v w) [ inl f ↦ inl (cc) | inr ne ↦ inr (λ e. ne (cc)) ]
  | inr ne ↦ inr (λ e. ne (cc))
]
cases_slot p q = inr (λ e. cc)

-- ---- changes

-- what a place may hold
abbrev InRange : GcState → Slot → ℕ → Type 0
InRange g (in_shared i) n = n < count g
InRange g (in_local t v) n = n < count g
InRange g (shared_mark i) n = n ≤ 1
InRange g (local_mark t v) n = n ≤ 1
InRange g (in_data t x) n = Unit {0}

put_in_range : (g : GcState) (p : Slot) (n : ℕ) (q : Slot) → InRange g p n → InRange g q (value g q)
    → InRange g q (value (put g p n) q)
put_in_range g p n q small before = elim (cases_slot q p) [
  | inl e ↦ subst (InRange g q) (sym (ap (value (put g p n)) e ∙ (puts g p n).here))
      (subst (λ q. InRange g q n) (sym e) small)
  | inr ne ↦ subst (InRange g q) (sym ((puts g p n).elsewhere q ne)) before
]

-- the nodes are those that were
record SameRange (g new : GcState) : Type 0 where
  entries : (m : Map) (k : ℕ) → entry new m k ≡ entry g m k
  size : count new ≡ count g
  shared : (i : ℕ) → value new (in_shared i) < count new
  locals : (t v : ℕ) → value new (in_local t v) < count new
  shared_marks : (i : ℕ) → value new (shared_mark i) ≤ 1
  local_marks : (t v : ℕ) → value new (local_mark t v) ≤ 1

ranged_nodes : (g new : GcState) → SameRange g new → IsInRange g → IsInRange new
ranged_nodes g new r k = record {
  null_made = (let s = k.null_made in let c = r.size in omega arith);
  shared = r.shared;
  locals = r.locals;
  unmade = unmade _;
  fields = λ f j. (let e = r.entries (pointer_field f) j in let s = k.fields f j in let c = r.size in omega arith);
  null_pointers = λ f. r.entries (pointer_field f) 0 ∙ k.null_pointers f;
  null_data = λ f. r.entries (data_field f) 0 ∙ k.null_data f;
  null_kept = r.entries retirement 0 ∙ k.null_kept;
  shared_marks = r.shared_marks;
  local_marks = r.local_marks;
  field_marks = λ f j. (let e = r.entries (mark_field f) j in let s = k.field_marks f j in omega arith);
  null_marks = λ f. r.entries (mark_field f) 0 ∙ k.null_marks f;
  bit = λ j. (let e = r.entries retirement j in let s = k.bit j in omega arith);
}

ranged_put : (g : GcState) (p : Slot) (n : ℕ) → InRange g p n → IsInRange g → IsInRange (put g p n)
ranged_put g p n small k =
    let u = puts g p n in
    ranged_nodes g (put g p n) (record {
      entries = u.nodes.entries;
      size = u.nodes.count;
      shared = λ i. (let x = put_in_range g p n (in_shared i) small (k.shared i) in let c = u.nodes.count in
          omega arith);
      locals = λ t v. (let x = put_in_range g p n (in_local t v) small (k.locals t v) in let c = u.nodes.count in
          omega arith);
      shared_marks = λ i. put_in_range g p n (shared_mark i) small (k.shared_marks i);
      local_marks = λ t v. put_in_range g p n (local_mark t v) small (k.local_marks t v);
    }) k

ranged_data : (g : GcState) (t x n : ℕ) → IsInRange g → IsInRange (put g (in_data t x) n)
ranged_data g t x n k = ranged_put g (in_data t x) n tt k

node_in_range : (g : GcState) (t : ℕ) (p : Var) (n : ℕ) → n < count g → InRange g (slot t p) n
node_in_range g t (Shared i) n small = small
node_in_range g t (Local v) n small = small

mark_in_range : (g : GcState) (t : ℕ) (p : Var) (m : ℕ) → m ≤ 1 → InRange g (mark_slot t p) m
mark_in_range g t (Shared i) m small = small
mark_in_range g t (Local v) m small = small

ranged_pointer : (g : GcState) (t : ℕ) (p : Var) (n m : ℕ) → n < count g → m ≤ 1 → IsInRange g
    → IsInRange (put_pointer g t p n m)
ranged_pointer g t p n m small bit k =
    let c = (puts g (mark_slot t p) m).nodes.count in
    ranged_put (put g (mark_slot t p) m) (slot t p) n (node_in_range _ t p n (omega (arith, c, small)))
    (ranged_put g (mark_slot t p) m (mark_in_range g t p m bit) k)

ranged_made : (g : GcState) → IsInRange g → IsInRange (made g)
ranged_made g k =
    let u = makes g in
    record {
      null_made = (let c = u.count in omega arith);
      shared = λ i. (let e = u.values (in_shared i) in let s = k.shared i in let c = u.count in omega arith);
      locals = λ t v. (let e = u.values (in_local t v) in let s = k.locals t v in let c = u.count in omega arith);
      unmade = unmade _;
      fields = λ f j. (let e = u.entries (pointer_field f) j in let s = k.fields f j in let c = u.count in omega arith);
      null_pointers = λ f. u.entries (pointer_field f) 0 ∙ k.null_pointers f;
      null_data = λ f. u.entries (data_field f) 0 ∙ k.null_data f;
      null_kept = u.entries retirement 0 ∙ k.null_kept;
      shared_marks = λ i. (let e = u.values (shared_mark i) in let s = k.shared_marks i in omega arith);
      local_marks = λ t v. (let e = u.values (local_mark t v) in let s = k.local_marks t v in omega arith);
      field_marks = λ f j. (let e = u.entries (mark_field f) j in let s = k.field_marks f j in omega arith);
      null_marks = λ f. u.entries (mark_field f) 0 ∙ k.null_marks f;
      bit = λ j. (let e = u.entries retirement j in let s = k.bit j in omega arith);
    }

-- an update at a node that was made: what it may be by its map
abbrev UpdateFits : GcState → Map → ℕ → ℕ → Type 0
UpdateFits g (pointer_field f) k n = (k ≡ 0 → ⊥) × (n < count g)
UpdateFits g (mark_field f) k n = (k ≡ 0 → ⊥) × (n ≤ 1)
UpdateFits g (data_field f) k n = (k ≡ 0 → ⊥)
UpdateFits g (auxiliary_field h) k n = Unit {0}
UpdateFits g retirement k n = (k ≡ 0 → ⊥) × (n ≤ 1)

new_pointer : (g : GcState) (m : Map) (k n : ℕ) → UpdateFits g m k n → IsInRange g → (f j : ℕ) → entry (update g m k n) (pointer_field f) j < count g
new_pointer g (pointer_field e) k n fits s f j = elim (cases_eq f e) [
  | inl same ↦ elim (cases_eq j k) [
    | inl there ↦ (
        let here : entry (update g (pointer_field e) k n) (pointer_field f) j ≡ n = ap (λ f. entry (update g (pointer_field e) k n) (pointer_field f) j) same ∙ ap (entry (update g (pointer_field e) k n) (pointer_field e)) there ∙ (updates g (pointer_field e) k n).here in
        let small = fits.1 in
        omega arith
        )
    | inr other ↦ (let q = (updates g (pointer_field e) k n).other_node (pointer_field f) j other in let small = s.fields f j in omega arith)
  ]
  | inr other ↦ (let q = (updates g (pointer_field e) k n).other_map (pointer_field f) j (λ same. other (cc)) in let small = s.fields f j in omega arith)
]
new_pointer g (mark_field e) k n fits s f j =
    let q = (updates g (mark_field e) k n).other_map (pointer_field f) j (λ same. cc) in let small = s.fields f j in
    omega arith
new_pointer g (data_field e) k n fits s f j = let q = (updates g (data_field e) k n).other_map (pointer_field f) j (λ same. cc) in let small = s.fields f j in omega arith
new_pointer g (auxiliary_field e) k n fits s f j = let q = (updates g (auxiliary_field e) k n).other_map (pointer_field f) j (λ same. cc) in let small = s.fields f j in omega arith
new_pointer g retirement k n fits s f j = let q = (updates g retirement k n).other_map (pointer_field f) j (λ same. cc) in let small = s.fields f j in omega arith

new_mark : (g : GcState) (m : Map) (k n : ℕ) → UpdateFits g m k n → IsInRange g → (f j : ℕ)
    → entry (update g m k n) (mark_field f) j ≤ 1
new_mark g (mark_field e) k n fits s f j = elim (cases_eq f e) [
  | inl same ↦ elim (cases_eq j k) [
    | inl there ↦ (
        let here : entry (update g (mark_field e) k n)
        (mark_field f) j ≡ n = ap (λ f. entry (update g (mark_field e) k n) (mark_field f) j) same
        ∙ ap (entry (update g (mark_field e) k n) (mark_field e)) there ∙ (updates g (mark_field e) k n).here in
        let small = fits.1 in
        omega arith
        )
    | inr other ↦ (let q = (updates g (mark_field e) k n).other_node (mark_field f) j other in
        let small = s.field_marks f j in omega arith)
  ]
  | inr other ↦ (let q = (updates g (mark_field e) k n).other_map (mark_field f) j (λ same. other (cc)) in
      let small = s.field_marks f j in omega arith)
]
new_mark g (pointer_field e) k n fits s f j =
    let q = (updates g (pointer_field e) k n).other_map (mark_field f) j (λ same. cc) in
    let small = s.field_marks f j in omega arith
new_mark g (data_field e) k n fits s f j =
    let q = (updates g (data_field e) k n).other_map (mark_field f) j (λ same. cc) in let small = s.field_marks f j in
    omega arith
new_mark g (auxiliary_field e) k n fits s f j =
    let q = (updates g (auxiliary_field e) k n).other_map (mark_field f) j (λ same. cc) in
    let small = s.field_marks f j in omega arith
new_mark g retirement k n fits s f j =
    let q = (updates g retirement k n).other_map (mark_field f) j (λ same. cc) in let small = s.field_marks f j in
    omega arith

new_bit : (g : GcState) (m : Map) (k n : ℕ) → UpdateFits g m k n → IsInRange g → (j : ℕ) → entry (update g m k n) retirement j ≤ 1
new_bit g retirement k n fits s j = elim (cases_eq j k) [
  | inl there ↦ (let here : entry (update g retirement k n) retirement j ≡ n = ap (entry (update g retirement k n) retirement) there ∙ (updates g retirement k n).here in let small = fits.1 in omega arith)
  | inr other ↦ (let q = (updates g retirement k n).other_node retirement j other in let small = s.bit j in omega arith)
]
new_bit g (pointer_field e) k n fits s j = let q = (updates g (pointer_field e) k n).other_map retirement j (λ same. cc) in let small = s.bit j in omega arith
new_bit g (mark_field e) k n fits s j =
    let q = (updates g (mark_field e) k n).other_map retirement j (λ same. cc) in let small = s.bit j in omega arith
new_bit g (data_field e) k n fits s j = let q = (updates g (data_field e) k n).other_map retirement j (λ same. cc) in let small = s.bit j in omega arith
new_bit g (auxiliary_field e) k n fits s j = let q = (updates g (auxiliary_field e) k n).other_map retirement j (λ same. cc) in let small = s.bit j in omega arith

-- null keeps what it has, but for its auxiliary fields
null_same : (g : GcState) (m : Map) (k n : ℕ) → UpdateFits g m k n → (l : Map) → ((h : ℕ) → l ≡ auxiliary_field h → ⊥) → entry (update g m k n) l 0 ≡ entry g l 0
null_same g (pointer_field e) k n fits l ne = (updates g (pointer_field e) k n).other_node l 0 (λ z. fits.0 (sym z))
null_same g (mark_field e) k n fits l ne = (updates g (mark_field e) k n).other_node l 0 (λ z. fits.0 (sym z))
null_same g (data_field e) k n fits l ne = (updates g (data_field e) k n).other_node l 0 (λ z. fits (sym z))
null_same g (auxiliary_field e) k n fits l ne = (updates g (auxiliary_field e) k n).other_map l 0 (ne e)
null_same g retirement k n fits l ne = (updates g retirement k n).other_node l 0 (λ z. fits.0 (sym z))

ranged_update : (g : GcState) (m : Map) (k n : ℕ) → k < count g → UpdateFits g m k n → IsInRange g → IsInRange (update g m k n)
ranged_update g m k n small fits s =
    let u = updates g m k n in
    record {
      null_made = (let c = u.count small in let z = s.null_made in omega arith);
      shared = λ i. (let e = u.values (in_shared i) in let z = s.shared i in let c = u.count small in omega arith);
      locals = λ t v. (let e = u.values (in_local t v) in let z = s.locals t v in let c = u.count small in omega arith);
      unmade = unmade _;
      fields = λ f j. (let e = new_pointer g m k n fits s f j in let c = u.count small in omega arith);
      null_pointers = λ f. null_same g m k n fits (pointer_field f) (λ h e. cc) ∙ s.null_pointers f;
      null_data = λ f. null_same g m k n fits (data_field f) (λ h e. cc) ∙ s.null_data f;
      null_kept = null_same g m k n fits retirement (λ h e. cc) ∙ s.null_kept;
      shared_marks = λ i. (let e = u.values (shared_mark i) in let z = s.shared_marks i in omega arith);
      local_marks = λ t v. (let e = u.values (local_mark t v) in let z = s.local_marks t v in omega arith);
      field_marks = new_mark g m k n fits s;
      null_marks = λ f. null_same g m k n fits (mark_field f) (λ h e. cc) ∙ s.null_marks f;
      bit = new_bit g m k n fits s;
    }

ranged_field : (g : GcState) (f k n m : ℕ) → k < count g → (k ≡ 0 → ⊥) → n < count g → m ≤ 1 → IsInRange g
    → IsInRange (update_pointer g f k n m)
ranged_field g f k n m made some small bit s =
    let c = (updates g (mark_field f) k m).count made in
    ranged_update (update g (mark_field f) k m) (pointer_field f) k n (omega (arith, c, made))
    (some, omega (arith, c, small)) (ranged_update g (mark_field f) k m made (some, bit) s)

pub ranged_given : (g : GcState) (t : ℕ) (l : Option Locals)
    → ((v : ℕ) → get_or (unwrap_or l no_locals).pointers v null_pointer ≡ null_pointer) → IsInRange g
    → IsInRange (with_locals g t l)
ranged_given g t l null k =
    let u = gives g t l in
    ranged_nodes g (with_locals g t l) (record {
      entries = u.nodes.entries;
      size = u.nodes.count;
      shared = λ i. (let e = u.shared i in let s = k.shared i in let c = u.nodes.count in omega arith);
      locals = λ y v. elim (cases_eq y t) [
        | inl e ↦ (let z : value (with_locals g t l)
            (in_local y v) ≡ 0 = ap (λ y. value (with_locals g t l) (in_local y v)) e ∙ u.pointers v
            ∙ ap (λ (p : Pointer). p.node) (null v) in let s = k.null_made in let c = u.nodes.count in omega arith)
        | inr ne ↦ (let z = u.others y v ne in let s = k.locals y v in let c = u.nodes.count in omega arith)
      ];
      shared_marks = λ i. (let e = u.shared_marks i in let s = k.shared_marks i in omega arith);
      local_marks = λ y v. elim (cases_eq y t) [
        | inl e ↦ (let z : value (with_locals g t l)
            (local_mark y v) ≡ 0 = ap (λ y. value (with_locals g t l) (local_mark y v)) e ∙ u.marks v
            ∙ ap (λ (p : Pointer). p.mark) (null v) in omega arith)
        | inr ne ↦ (let z = u.other_marks y v ne in let s = k.local_marks y v in omega arith)
      ];
    }) k

-- ---- primitives

pub small_at : (g : GcState) (t : ℕ) (v : Var) → IsInRange g → node_at g t v < count g
small_at g t (Shared i) k = k.shared i
small_at g t (Local v) k = k.locals t v

pub bit_at : (g : GcState) (t : ℕ) (v : Var) → IsInRange g → mark_at g t v ≤ 1
bit_at g t (Shared i) k = k.shared_marks i
bit_at g t (Local v) k = k.local_marks t v

isnt_null : (g : GcState) (t : ℕ) (v : Var) → some_node g t v ≡ true → node_at g t v ≡ 0 → ⊥
isnt_null g t v may e = false≢true (sym (not-true _ may) ∙ eq-eqb (node_at g t v) 0 e)

ranged_call : (g : GcState) (t : ℕ) (b : Bool) (r : Arg) → goes_call g t b r ≡ true → IsInRange g → IsInRange (after_call g t b r)
ranged_call g t true (args.Var p) may k = ranged_update g retirement (node_at g t p) 1 (small_at g t p k) (isnt_null g t p may, omega arith) k
ranged_call g t true args.Null may k = k
ranged_call g t true args.None may k = k
ranged_call g t false r may k = k

pub ranged_primitive : (g : GcState) (t : ℕ) (p : Primitive) → goes g t p ≡ true → IsInRange g → IsInRange (after g t p)
ranged_primitive g t (Null p) may k = ranged_pointer g t p 0 0 k.null_made (omega arith) k
ranged_primitive g t (Copy p q) may k = ranged_pointer g t p _ _ (small_at g t q k) (bit_at g t q k) k
ranged_primitive g t (New p) may k =
    ranged_pointer (made g) t p (count g) 0 (let c = (makes g).count in omega arith) (omega arith) (ranged_made g k)
ranged_primitive g t (Load p q f) may k =
    ranged_pointer g t p _ _ (k.fields f.0 (node_at g t q)) (k.field_marks f.0 (node_at g t q)) k
ranged_primitive g t (Store p f q) may k =
    ranged_field g f.0 (node_at g t p) _ _ (small_at g t p k) (isnt_null g t p may) (small_at g t q k)
    (bit_at g t q k) k
ranged_primitive g t (StoreNull p f) may k =
    ranged_field g f.0 (node_at g t p) 0 0 (small_at g t p k) (isnt_null g t p may) k.null_made (omega arith) k
ranged_primitive g t (DataSet x e) may k = ranged_data g t x _ k
ranged_primitive g t (DataLoad x q f) may k = ranged_data g t x _ k
ranged_primitive g t (DataStore p f e) may k = ranged_update g (data_field f.0) (node_at g t p) _ (small_at g t p k) (isnt_null g t p may) k
ranged_primitive g t (Eq p q) may k = k
ranged_primitive g t (Ne p q) may k = k
ranged_primitive g t (IsNull p) may k = k
ranged_primitive g t (NotNull p) may k = k
ranged_primitive g t (DataTest r x e) may k = k
ranged_primitive g t (Refresh p q) may k = ranged_pointer g t (Local p) _ _ (small_at g t q k) (bit_at g t q k) k
ranged_primitive g t (RefreshLoad p q f) may k =
    ranged_pointer g t (Local p) _ _ (k.fields f.0 (node_at g t q)) (k.field_marks f.0 (node_at g t q)) k
ranged_primitive g t (RefreshStore p f q) may k =
    ranged_field g f.0 (node_at g t p) _ _ (small_at g t p k) (isnt_null g t p may) (small_at g t q k)
    (bit_at g t q k) k
ranged_primitive g t (Mark p q) may k = ranged_pointer g t p _ 1 (small_at g t q k) (omega arith) k
ranged_primitive g t (Unmark p q) may k = ranged_pointer g t p _ 0 (small_at g t q k) (omega arith) k
ranged_primitive g t (MarkTest p m) may k = k
ranged_primitive g t (Call f r) may k = ranged_call g t (is_retire f) r may k
ranged_primitive g t (Done f) may k = k
ranged_primitive g t (Active p) may k = k
ranged_primitive g t (Ghost p h v) may k = ranged_update g (auxiliary_field h) (node_at g t p) _ (small_at g t p k) tt k

ranged_primitives : (g new : GcState) (t : ℕ) (ps : List Primitive) → execute g t ps ≡ Some new → IsInRange g → IsInRange new
ranged_primitives g new t [] e k = let same : g ≡ new = cc in subst IsInRange same k
ranged_primitives g new t (p ∷ ps) e k = go (goes g t p) refl e (λ may rest. ranged_primitives (after g t p) new t ps rest (ranged_primitive g t p may k))
  where
    go : (b : Bool) → goes g t p ≡ b → turn b (execute (after g t p) t ps) ≡ Some new → (goes g t p ≡ true → execute (after g t p) t ps ≡ Some new → IsInRange new) → IsInRange new
    go true is e next = next is e
    go false is e next = cc

-- ---- moves and runs

ranged_move : (flow : Flow) (threads : ℕ) (c d : GcConfiguration) (move : Move) → Moves flow threads c move d → IsInRange c.state → IsInRange d.state
ranged_move flow threads c d (Start t op args) m k =
    subst (λ (d : GcConfiguration). IsInRange d.state) (sym m.7)
    (ranged_given c.state t (Some (starting m.0 args)) (λ v. get-replicate null_pointer _ v) k)
ranged_move flow threads c d (Take t nth addr) m k = subst (λ (d : GcConfiguration). IsInRange d.state) (sym m.5) (ranged_primitives c.state m.2 t m.1.prims m.4 k)
ranged_move flow threads c d (Return t) m k = subst (λ (d : GcConfiguration). IsInRange d.state) (sym m.6) (ranged_given c.state t None (λ v. refl) k)
ranged_move flow threads c d (Free a) m k = subst (λ (d : GcConfiguration). IsInRange d.state) (sym m) k

pub ranged_first : (flow : Flow) (threads : ℕ) → IsInRange (first_state flow threads)
ranged_first flow threads =
    let k = first flow.file.fields (length flow.file.ghosts) (length flow.file.shared) threads in
    record {
      null_made = (let c = k.count in omega arith);
      unmade = unmade _;
      shared = λ i. (let e = k.values (in_shared i) in let c = k.count in omega arith);
      locals = λ t v. (let e = k.values (in_local t v) in let c = k.count in omega arith);
      fields = λ f j. (let e = k.entries (pointer_field f) j in let c = k.count in omega arith);
      null_pointers = λ f. k.entries (pointer_field f) 0;
      null_data = λ f. k.entries (data_field f) 0;
      null_kept = k.entries retirement 0;
      shared_marks = λ i. (let e = k.values (shared_mark i) in omega arith);
      local_marks = λ t v. (let e = k.values (local_mark t v) in omega arith);
      field_marks = λ f j. (let e = k.entries (mark_field f) j in omega arith);
      null_marks = λ f. k.entries (mark_field f) 0;
      bit = λ j. (let e = k.entries retirement j in omega arith);
    }

ranged_begun : (flow : Flow) (threads : ℕ) (c : GcConfiguration) → first_configuration flow threads ≡ Some c → IsInRange c.state
ranged_begun flow threads c e = go (initialised flow threads) refl e
  where
    go : (end : Option GcState) → initialised flow threads ≡ end → beginning threads end ≡ Some c → IsInRange c.state
    go (Some g) is e =
        let same : record { state = with_locals g 0 None; points = replicate threads None } ≡ c = cc in
        let before = ranged_given (first_state flow threads) 0 (Some no_locals) (λ v. refl) (ranged_first flow threads) in
        subst (λ (c : GcConfiguration). IsInRange c.state) same (ranged_given g 0 None (λ v. refl) (ranged_primitives _ g 0 flow.file.init is before))
    go None is e = cc

pub ranged_run : (flow : Flow) (threads : ℕ) (moves : List Move) (c : GcConfiguration) → GcRun flow threads moves c → IsInRange c.state
ranged_run flow threads moves c (begin e) = ranged_begun flow threads c e
ranged_run flow threads moves d (more {moves = ms} {c = c} run move m) = ranged_move flow threads c d move m (ranged_run flow threads ms c run)

pub runs_stay_in_range : (flow : Flow) (threads : ℕ) → RunsStayInRange flow threads
runs_stay_in_range flow threads = record {
  begun = ranged_begun flow threads;
  by_primitive = ranged_primitive;
  by_move = ranged_move flow threads;
  run = ranged_run flow threads;
}
