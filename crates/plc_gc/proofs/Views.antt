-- What each change leaves: the only file that opens `value`, `entry`, `put` and `update`.
use Rattle.std.proofs.Common.{◌≡◌, ℕ, zero, suc, ◌<◌, ◌≤◌, List, [], ◌∷◌, ◌++◌, Option, Some, None, length, get_or}
use Rattle.std.proofs.Common.{refl, sym, ap, ◌∙◌, subst, arith, inl, inr, length-append}
use Rattle.std.proofs.lemmas.Bool.{cases_eq}
use Rattle.std.proofs.lemmas.List.{get_or_past}
use Rattle.std.specs.Option.{unwrap_or}
use Rattle.plc_base.specs.Tables.{put_at}
use Rattle.plc_base.proofs.Tables.{get-put_same, get-put_other, get-replicate, length_put}
use Rattle.plc_moves.proofs.Holding.{held-put_same, held-put_other}
use Rattle.plc_lang.specs.declared.syntax.Field.{Field}
use Rattle.plc_lang.specs.declared.syntax.Var.{Var}
use Rattle.plc_lang.specs.declared.syntax.Var.TheVariants.{Shared, Local}
use Rattle.plc_gc.specs.declared.slot.Slot.{Slot}
use Rattle.plc_gc.specs.declared.slot.Slot.TheVariants.{Shared as in_shared, Local as in_local}
use Rattle.plc_gc.specs.declared.slot.Slot.TheVariants.{SharedMark as shared_mark, LocalMark as local_mark}
use Rattle.plc_gc.specs.declared.slot.Slot.TheVariants.{Data as in_data}
use Rattle.plc_gc.specs.declared.slot.Map.{Map}
use Rattle.plc_gc.specs.declared.slot.Pointer.{Pointer}
use Rattle.plc_gc.specs.declared.slot.Map.TheVariants.{Pointer as pointer_field, Mark as mark_field}
use Rattle.plc_gc.specs.declared.slot.Map.TheVariants.{Number as data_field, Auxiliary as auxiliary_field}
use Rattle.plc_gc.specs.declared.slot.Map.TheVariants.{Retirement as retirement}
use Rattle.plc_gc.specs.State.{GcState, Row, Locals, null_pointer, with_node, with_mark, node_put, mark_put, no_row}
use Rattle.plc_gc.specs.State.{fresh_row, row_entry, row_with, locals_of, with_locals, value, entry, no_locals}
use Rattle.plc_gc.specs.State.{count, put, update, made, fresh_state, slot, mark_slot, put_pointer, update_pointer}
use Rattle.plc_gc.specs.Laws.{Put, Updated, PointerPut, PointerUpdated, WasMade, HasLocals, IsFirst, GcStateLaws}

-- ---- locals

pub locals-with_same : (g : GcState) (t : ℕ) (l : Option Locals) → locals_of (with_locals g t l) t ≡ unwrap_or l no_locals
unfolding locals_of with_locals
locals-with_same g t l = held-put_same no_locals g.locals t l

pub locals-with_other : (g : GcState) (t : ℕ) (l : Option Locals) (u : ℕ) → (u ≡ t → ⊥) → locals_of (with_locals g t l) u ≡ locals_of g u
unfolding locals_of with_locals
locals-with_other g t l u ne = held-put_other no_locals g.locals t l u ne

pub gives : (g : GcState) (t : ℕ) (l : Option Locals) → HasLocals g t l (with_locals g t l)
unfolding value entry count with_locals
gives g t l = record {
  pointers = λ v. ap (λ (m : Locals). (get_or m.pointers v null_pointer).node) (locals-with_same g t l);
  marks = λ v. ap (λ (m : Locals). (get_or m.pointers v null_pointer).mark) (locals-with_same g t l);
  values = λ x. ap (λ (m : Locals). get_or m.values x 0) (locals-with_same g t l);
  shared = λ i. refl;
  shared_marks = λ i. refl;
  others = λ u v ne. ap (λ (m : Locals). (get_or m.pointers v null_pointer).node) (locals-with_other g t l u ne);
  other_marks = λ u v ne. ap (λ (m : Locals). (get_or m.pointers v null_pointer).mark) (locals-with_other g t l u ne);
  other_values = λ u x ne. ap (λ (m : Locals). get_or m.values x 0) (locals-with_other g t l u ne);
  nodes = record { entries = λ m k. refl; count = refl };
}

-- ---- tables of pointers, by what is read of a pointer: a node that is written leaves the marks, a mark the nodes

read_here : (read : Pointer → ℕ) (ps : List Pointer) (i : ℕ) (p : Pointer)
    → read (get_or (put_at null_pointer ps i p) i null_pointer) ≡ read p
read_here read ps i p = ap read (get-put_same null_pointer ps i p)

read_there : (read : Pointer → ℕ) (ps : List Pointer) (i : ℕ) (p : Pointer) (j : ℕ) → (j ≡ i → ⊥)
    → read (get_or (put_at null_pointer ps i p) j null_pointer) ≡ read (get_or ps j null_pointer)
read_there read ps i p j ne = ap read (get-put_other null_pointer ps i p j ne)

read_stays : (read : Pointer → ℕ) (ps : List Pointer) (i : ℕ) (p : Pointer) → read p ≡ read (get_or ps i null_pointer)
    → (j : ℕ) → read (get_or (put_at null_pointer ps i p) j null_pointer) ≡ read (get_or ps j null_pointer)
read_stays read ps i p same j = elim (cases_eq j i) [
  | inl e ↦ subst (λ j. read (get_or (put_at null_pointer ps i p) j null_pointer) ≡ read (get_or ps j null_pointer))
      (sym e) (read_here read ps i p ∙ same)
  | inr ne ↦ read_there read ps i p j ne
]

node_here : (ps : List Pointer) (i n : ℕ) → (get_or (node_put ps i n) i null_pointer).node ≡ n
node_here ps i n = read_here (λ p. p.node) ps i (with_node (get_or ps i null_pointer) n)

mark_here : (ps : List Pointer) (i n : ℕ) → (get_or (mark_put ps i n) i null_pointer).mark ≡ n
mark_here ps i n = read_here (λ p. p.mark) ps i (with_mark (get_or ps i null_pointer) n)

-- each pointer of a table has the node and the mark that it had, but for the number at one place; `at` and `mark_at`
-- name the places of the nodes and of the marks
record ElseSame (at mark_at : ℕ → Slot) (here : Slot) (ps qs : List Pointer) : Type 0 where
  nodes : (j : ℕ) → (at j ≡ here → ⊥) → (get_or qs j null_pointer).node ≡ (get_or ps j null_pointer).node
  marks : (j : ℕ) → (mark_at j ≡ here → ⊥) → (get_or qs j null_pointer).mark ≡ (get_or ps j null_pointer).mark

node_there : (ps : List Pointer) (i n j : ℕ) → (j ≡ i → ⊥)
    → (get_or (node_put ps i n) j null_pointer).node ≡ (get_or ps j null_pointer).node
node_there ps i n = read_there (λ p. p.node) ps i (with_node (get_or ps i null_pointer) n)

mark_there : (ps : List Pointer) (i n j : ℕ) → (j ≡ i → ⊥)
    → (get_or (mark_put ps i n) j null_pointer).mark ≡ (get_or ps j null_pointer).mark
mark_there ps i n = read_there (λ p. p.mark) ps i (with_mark (get_or ps i null_pointer) n)

mark_stays : (ps : List Pointer) (i n j : ℕ)
    → (get_or (node_put ps i n) j null_pointer).mark ≡ (get_or ps j null_pointer).mark
mark_stays ps i n = read_stays (λ p. p.mark) ps i (with_node (get_or ps i null_pointer) n) refl

node_stays : (ps : List Pointer) (i n j : ℕ)
    → (get_or (mark_put ps i n) j null_pointer).node ≡ (get_or ps j null_pointer).node
node_stays ps i n = read_stays (λ p. p.node) ps i (with_mark (get_or ps i null_pointer) n) refl

same_but_node : (at mark_at : ℕ → Slot) (ps : List Pointer) (i n : ℕ) → ElseSame at mark_at (at i) ps (node_put ps i n)
same_but_node at mark_at ps i n =
    record { nodes = λ j ne. node_there ps i n j (λ e. ne (ap at e)); marks = λ j ne. mark_stays ps i n j }

same_but_mark : (at mark_at : ℕ → Slot) (ps : List Pointer) (i n : ℕ)
    → ElseSame at mark_at (mark_at i) ps (mark_put ps i n)
same_but_mark at mark_at ps i n =
    record { nodes = λ j ne. node_stays ps i n j; marks = λ j ne. mark_there ps i n j (λ e. ne (ap mark_at e)) }

-- ---- values

-- where shared pointers change at one place alone, all else has what it had
shared_put : (g : GcState) (ps : List Pointer) (p : Slot) (n : ℕ) → value (record g { shared = ps }) p ≡ n
    → ElseSame in_shared shared_mark p g.shared ps → Put g p n (record g { shared = ps })
unfolding value entry count
shared_put g ps p n here same = record {
  here = here;
  elsewhere = elim [
    | in_shared j ↦ same.nodes j
    | in_local t v ↦ λ ne. refl
    | shared_mark j ↦ same.marks j
    | local_mark t v ↦ λ ne. refl
    | in_data t x ↦ λ ne. refl
  ];
  nodes = record { entries = λ m k. refl; count = refl };
}

-- where a thread's locals change at one place alone, all else has what it had
own_put : (g : GcState) (t : ℕ) (l : Locals) (p : Slot) (n : ℕ) → value (with_locals g t (Some l)) p ≡ n
    → ElseSame (in_local t) (local_mark t) p (locals_of g t).pointers l.pointers
    → ((x : ℕ) → (in_data t x ≡ p → ⊥) → get_or l.values x 0 ≡ get_or (locals_of g t).values x 0)
    → Put g p n (with_locals g t (Some l))
unfolding value
own_put g t l p n here same values =
    record { here = here; elsewhere = kept; nodes = (gives g t (Some l)).nodes }
  where
    h : HasLocals g t (Some l) (with_locals g t (Some l))
    h = gives g t (Some l)

    -- a place of thread u, which may be t
    place : (s : ℕ → Slot) (u : ℕ) → (s u ≡ p → ⊥)
        → ((s t ≡ p → ⊥) → value (with_locals g t (Some l)) (s t) ≡ value g (s t))
        → ((u ≡ t → ⊥) → value (with_locals g t (Some l)) (s u) ≡ value g (s u))
        → value (with_locals g t (Some l)) (s u) ≡ value g (s u)
    place s u ne own others = elim (cases_eq u t) [
      | inl e ↦ (let P : ℕ → Type 0 = λ u. value (with_locals g t (Some l)) (s u) ≡ value g (s u) in
          subst P (sym e) (own (λ same. ne (ap s e ∙ same))))
      | inr other ↦ others other
    ]

    kept : (q : Slot) → (q ≡ p → ⊥) → value (with_locals g t (Some l)) q ≡ value g q
    kept (in_shared j) ne = h.shared j
    kept (in_local u v) ne = place (λ u. in_local u v) u ne (λ own. h.pointers v ∙ same.nodes v own) (h.others u v)
    kept (shared_mark j) ne = h.shared_marks j
    kept (local_mark u v) ne = place (λ u. local_mark u v) u ne (λ own. h.marks v ∙ same.marks v own) (h.other_marks u v)
    kept (in_data u x) ne = place (λ u. in_data u x) u ne (λ own. h.values x ∙ values x own) (h.other_values u x)

pub puts : (g : GcState) (p : Slot) (n : ℕ) → Put g p n (put g p n)
unfolding value put
puts g (in_shared i) n =
    shared_put g _ (in_shared i) n (node_here g.shared i n) (same_but_node in_shared shared_mark g.shared i n)
puts g (shared_mark i) n =
    shared_put g _ (shared_mark i) n (mark_here g.shared i n) (same_but_mark in_shared shared_mark g.shared i n)
puts g (in_local t v) n =
    let ps = (locals_of g t).pointers in
    own_put g t _ (in_local t v) n ((gives g t (Some (record (locals_of g t) { pointers = node_put ps v n }))).pointers v ∙ node_here ps v n)
    (same_but_node (in_local t) (local_mark t) ps v n) (λ x ne. refl)
puts g (local_mark t v) n =
    let ps = (locals_of g t).pointers in
    own_put g t _ (local_mark t v) n ((gives g t (Some (record (locals_of g t) { pointers = mark_put ps v n }))).marks v ∙ mark_here ps v n)
    (same_but_mark (in_local t) (local_mark t) ps v n) (λ x ne. refl)
puts g (in_data t x) n =
    let l : Locals = record (locals_of g t) { values = put_at 0 (locals_of g t).values x n } in
    own_put g t l (in_data t x) n ((gives g t (Some l)).values x ∙ get-put_same 0 (locals_of g t).values x n)
    (record { nodes = λ v ne. refl; marks = λ v ne. refl })
    (λ y ne. get-put_other 0 (locals_of g t).values x n y (λ e. ne (ap (in_data t) e)))

-- ---- rows

row_same : (r : Row) (m : Map) (n : ℕ) → row_entry (row_with r m n) m ≡ n
row_same r (pointer_field f) n = node_here r.pointers f n
row_same r (mark_field f) n = mark_here r.pointers f n
row_same r (data_field f) n = get-put_same 0 r.values f n
row_same r (auxiliary_field h) n = get-put_same 0 r.auxiliary h n
row_same r retirement n = refl

row_other : (r : Row) (m : Map) (n : ℕ) (l : Map) → (l ≡ m → ⊥) → row_entry (row_with r m n) l ≡ row_entry r l
row_other r (pointer_field f) n (pointer_field e) ne = node_there r.pointers f n e (λ q. ne (ap pointer_field q))
row_other r (mark_field f) n (mark_field e) ne = mark_there r.pointers f n e (λ q. ne (ap mark_field q))
row_other r (data_field f) n (data_field e) ne = get-put_other 0 r.values f n e (λ q. ne (ap data_field q))
row_other r (auxiliary_field f) n (auxiliary_field e) ne = get-put_other 0 r.auxiliary f n e (λ q. ne (ap auxiliary_field q))
row_other r retirement n retirement ne = absurd (ne refl)
row_other r (pointer_field f) n (mark_field e) ne = mark_stays r.pointers f n e
row_other r (mark_field f) n (pointer_field e) ne = node_stays r.pointers f n e
row_other r m n l ne = refl

pub no_entry : (m : Map) → row_entry no_row m ≡ 0
no_entry (pointer_field f) = refl
no_entry (mark_field f) = refl
no_entry (data_field f) = refl
no_entry (auxiliary_field h) = refl
no_entry retirement = refl

fresh_entry : (fields ghosts : ℕ) (m : Map) → row_entry (fresh_row fields ghosts) m ≡ 0
fresh_entry fields ghosts (pointer_field f) = ap (λ (p : Pointer). p.node) (get-replicate null_pointer fields f)
fresh_entry fields ghosts (mark_field f) = ap (λ (p : Pointer). p.mark) (get-replicate null_pointer fields f)
fresh_entry fields ghosts (data_field f) = get-replicate 0 fields f
fresh_entry fields ghosts (auxiliary_field h) = get-replicate 0 ghosts h
fresh_entry fields ghosts retirement = refl

-- what is known of nodes is no value of a place
values_stay : (g : GcState) (rows : List Row) (q : Slot) → value (record g { rows = rows }) q ≡ value g q
unfolding value
values_stay g rows (in_shared i) = refl
values_stay g rows (in_local t v) = refl
values_stay g rows (shared_mark i) = refl
values_stay g rows (local_mark t v) = refl
values_stay g rows (in_data t x) = refl

pub updates : (g : GcState) (m : Map) (k n : ℕ) → Updated g m k n (update g m k n)
unfolding value entry count update
updates g m k n =
    let r = row_with (get_or g.rows k no_row) m n in
    record {
      here = ap (λ r. row_entry r m) (get-put_same no_row g.rows k r) ∙ row_same (get_or g.rows k no_row) m n;
      other_node = λ l j ne. ap (λ r. row_entry r l) (get-put_other no_row g.rows k r j ne);
      other_map = λ l j ne. elim (cases_eq j k) [
        | inl e ↦ subst (λ j. row_entry (get_or (put_at no_row g.rows k r) j no_row) l ≡ row_entry (get_or g.rows j no_row) l) (sym e)
            (ap (λ r. row_entry r l) (get-put_same no_row g.rows k r) ∙ row_other (get_or g.rows k no_row) m n l ne)
        | inr other ↦ ap (λ r. row_entry r l) (get-put_other no_row g.rows k r j other)
      ];
      values = values_stay g (put_at no_row g.rows k r);
      count = λ small. length_put no_row g.rows k r small;
    }

-- ---- pointers: the node and the mark of one place are two numbers

node_and_mark : (t : ℕ) (v : Var) → mark_slot t v ≡ slot t v → ⊥
node_and_mark t (Shared i) e = cc
node_and_mark t (Local v) e = cc

pub puts_pointer : (g : GcState) (t : ℕ) (v : Var) (n m : ℕ) → PointerPut g t v n m (put_pointer g t v n m)
puts_pointer g t v n m =
    let one = puts g (mark_slot t v) m in
    let two = puts (put g (mark_slot t v) m) (slot t v) n in
    record {
      node = two.here;
      mark = two.elsewhere (mark_slot t v) (node_and_mark t v) ∙ one.here;
      elsewhere = λ q a b. two.elsewhere q a ∙ one.elsewhere q b;
      nodes = record {
        entries = λ l k. two.nodes.entries l k ∙ one.nodes.entries l k;
        count = two.nodes.count ∙ one.nodes.count;
      };
    }

pub updates_pointer : (g : GcState) (f k n m : ℕ) → PointerUpdated g f k n m (update_pointer g f k n m)
updates_pointer g f k n m =
    let one = updates g (mark_field f) k m in
    let two = updates (update g (mark_field f) k m) (pointer_field f) k n in
    record {
      node = two.here;
      mark = two.other_map (mark_field f) k (λ e. cc) ∙ one.here;
      other_node = λ l j ne. two.other_node l j ne ∙ one.other_node l j ne;
      other_map = λ l j a b. two.other_map l j a ∙ one.other_map l j b;
      values = λ q. two.values q ∙ one.values q;
      count = λ small. two.count (subst (λ c. k < c) (sym (one.count small)) small) ∙ one.count small;
    }

-- a row after the others reads as the default
pushed : (rows : List Row) (r : Row) (m : Map) (k : ℕ) → row_entry r m ≡ 0 → row_entry (get_or (rows ++ r ∷ []) k no_row) m ≡ row_entry (get_or rows k no_row) m
pushed [] r m zero e = e ∙ sym (no_entry m)
pushed [] r m (suc k) e = refl
pushed (x ∷ rows) r m zero e = refl
pushed (x ∷ rows) r m (suc k) e = pushed rows r m k e

pub makes : (g : GcState) → WasMade g (made g)
unfolding value entry count made
makes g = record {
  entries = λ m k. pushed g.rows (fresh_row (length g.fields) g.ghosts) m k (fresh_entry (length g.fields) g.ghosts m);
  values = values_stay g (g.rows ++ fresh_row (length g.fields) g.ghosts ∷ []);
  count = (let e = length-append g.rows (fresh_row (length g.fields) g.ghosts ∷ []) in omega (arith, e));
}

pub unmade : (g : GcState) (m : Map) (k : ℕ) → count g ≤ k → entry g m k ≡ 0
unfolding entry count
unmade g m k past = ap (λ r. row_entry r m) (get_or_past g.rows k no_row past) ∙ no_entry m

-- ---- the first state

first_value : (fields : List Field) (ghosts shared threads : ℕ) (q : Slot) → value (fresh_state fields ghosts shared threads) q ≡ 0
unfolding value locals_of
first_value fields ghosts shared threads (in_shared i) =
    ap (λ (p : Pointer). p.node) (get-replicate null_pointer shared i)
first_value fields ghosts shared threads (in_local t v) =
    ap (λ l. (get_or (unwrap_or l no_locals).pointers v null_pointer).node) (get-replicate None threads t)
first_value fields ghosts shared threads (shared_mark i) =
    ap (λ (p : Pointer). p.mark) (get-replicate null_pointer shared i)
first_value fields ghosts shared threads (local_mark t v) =
    ap (λ l. (get_or (unwrap_or l no_locals).pointers v null_pointer).mark) (get-replicate None threads t)
first_value fields ghosts shared threads (in_data t x) = ap (λ l. get_or (unwrap_or l no_locals).values x 0) (get-replicate None threads t)

first_entry : (fields : List Field) (ghosts shared threads : ℕ) (m : Map) (k : ℕ) → entry (fresh_state fields ghosts shared threads) m k ≡ 0
unfolding entry
first_entry fields ghosts shared threads m zero = fresh_entry (length fields) ghosts m
first_entry fields ghosts shared threads m (suc k) = no_entry m

pub first : (fields : List Field) (ghosts shared threads : ℕ) → IsFirst (fresh_state fields ghosts shared threads)
unfolding count
first fields ghosts shared threads = record {
  values = first_value fields ghosts shared threads;
  entries = first_entry fields ghosts shared threads;
  count = refl;
}

pub state_laws : GcStateLaws
state_laws =
    record {
      puts = puts;
      updates = updates;
      puts_pointer = puts_pointer;
      updates_pointer = updates_pointer;
      makes = makes;
      gives = gives;
      unmade = unmade;
      first = first;
    }
