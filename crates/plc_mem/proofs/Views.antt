-- What each change of memory leaves at each place: the only file that opens `at` and `put`.
use Rattle.std.proofs.Common.{◌⊎◌, ◌≡◌, ℕ, ◌<◌, Bool, true, false, not, ◌||◌, ◌==◌, List, [], ◌∷◌, ◌++◌, Option, Some, None, length, get_or, map, filter, refl, sym, ap, ◌∙◌, subst, arith, inl, inr}
use Rattle.std.specs.List.{list_any}
use Rattle.std.proofs.lemmas.Bool.{cases_eq, ne_eqb}
use Rattle.std.proofs.lemmas.List.Folds.{list_any-append}
use Rattle.std.specs.Option.{unwrap_or}
use Rattle.plc_mem.specs.declared.cell.Cell.{Cell}
use Rattle.plc_mem.specs.State.{State, Place, at_shared, at_local, at_field, Node, Locals, null_cell, locals_of, with_locals, node_of, put_node, is_used, is_retired, at, put, value_at, put_value, field_value, put_field_value, fresh_node, with_node, with_retired, cut, cut_node, cut_locals, freed, fresh_state, no_locals}
use Rattle.plc_base.specs.Tables.{put_at}
use Rattle.plc_mem.specs.Laws.{is_there, SameAddresses, Wrote, WroteLocal, WroteField, WasMade, WasRetired, WasFreed, HasLocals, MemoryLaws}
use Rattle.plc_base.proofs.Tables.{get-put_same, get-put_other, get-map, get-replicate, any-without, any-map}
use Rattle.plc_moves.proofs.Holding.{held-put_same, held-put_other}
use Rattle.plc_mem.proofs.Nodes.{has_node, address-node_of, node-put_same, node-put_other, has-put, put-absent, node-absent, node-push_same, node-push_other, node-gone, node-stays}

-- ---- locals

pub locals-with_same : (s : State) (t : ℕ) (l : Option Locals) → locals_of (with_locals s t l) t ≡ unwrap_or l no_locals
unfolding locals_of with_locals
locals-with_same s t l = held-put_same no_locals s.locals t l

pub gives : (s : State) (t : ℕ) (l : Option Locals) → HasLocals s t l (with_locals s t l)
unfolding at value_at field_value is_used is_retired with_locals locals_of
gives s t l = record {
  pointers = λ v. ap (λ (m : Locals). get_or m.pointers v null_cell) (locals-with_same s t l);
  values = λ x. ap (λ (m : Locals). get_or m.values x 0) (locals-with_same s t l);
  shared = λ i. refl;
  fields = λ a f. refl;
  others = λ u v ne. ap (λ (m : Locals). get_or m.pointers v null_cell) (held-put_other no_locals s.locals t l u ne);
  other_values = λ u x ne. ap (λ (m : Locals). get_or m.values x 0) (held-put_other no_locals s.locals t l u ne);
  field_values = λ a f. refl;
  addresses = record { used = λ a. refl; retired = λ a. refl };
}

-- ---- pointers

shared_wrote : (s : State) (i : ℕ) (c : Cell) → Wrote s (at_shared i) c (put s (at_shared i) c)
unfolding at put value_at field_value is_used is_retired
shared_wrote s i c = record {
  here = get-put_same null_cell s.shared i c;
  elsewhere = elim [
    | at_shared j ↦ λ ne. get-put_other null_cell s.shared i c j (λ e. ne (ap at_shared e))
    | at_local t v ↦ λ ne. refl
    | at_field a f ↦ λ ne. refl
  ];
  data_kept = record { locals = λ t x. refl; fields = λ a f. refl };
  addresses = record { used = λ a. refl; retired = λ a. refl };
}

local_wrote : (s : State) (t v : ℕ) (c : Cell) → Wrote s (at_local t v) c (put s (at_local t v) c)
unfolding at put value_at
local_wrote s t v c =
    let l : Locals = record (locals_of s t) { pointers = put_at null_cell (locals_of s t).pointers v c } in
    let g = gives s t (Some l) in
    record {
      here = g.pointers v ∙ get-put_same null_cell (locals_of s t).pointers v c;
      elsewhere = elim [
        | at_shared j ↦ λ ne. g.shared j
        | at_local u w ↦ λ ne. elim (cases_eq u t) [
          | inl e ↦ subst (λ u. (at_local u w ≡ at_local t v → ⊥) → at (with_locals s t (Some l)) (at_local u w) ≡ at s (at_local u w)) (sym e)
              (λ ne. g.pointers w ∙ get-put_other null_cell (locals_of s t).pointers v c w (λ e. ne (ap (at_local t) e))) ne
          | inr other ↦ g.others u w other
        ]
        | at_field a f ↦ λ ne. g.fields a f
      ];
      data_kept = record {
        locals = λ u x. elim (cases_eq u t) [
          | inl e ↦ subst (λ u. value_at (with_locals s t (Some l)) u x ≡ value_at s u x) (sym e) (g.values x)
          | inr other ↦ g.other_values u x other
        ];
        fields = g.field_values;
      };
      addresses = g.addresses;
    }

-- a node in the place of the one of its address
node_wrote : (s : State) (a : ℕ) (m : Node) → m.address ≡ a → is_used s a ≡ true → node_of (put_node s.nodes a m) a ≡ m
unfolding is_used
node_wrote s a m same used = node-put_same s.nodes a m same used

node_used : (s : State) (a : ℕ) (m : Node) → m.address ≡ a → SameAddresses s (record s { nodes = put_node s.nodes a m })
unfolding is_used is_retired
node_used s a m same = record { used = λ b. has-put s.nodes a m b same; retired = λ b. refl }

field_wrote : (s : State) (a f : ℕ) (c : Cell) → is_used s a ≡ true → Wrote s (at_field a f) c (put s (at_field a f) c)
unfolding at put value_at field_value
field_wrote s a f c used =
    let n = node_of s.nodes a in
    let m : Node = record n { cells = put_at null_cell n.cells f c } in
    let same : m.address ≡ a = address-node_of s.nodes a in
    let there = node_wrote s a m same used in
    record {
      here = ap (λ (m : Node). get_or m.cells f null_cell) there ∙ get-put_same null_cell n.cells f c;
      elsewhere = elim [
        | at_shared j ↦ λ ne. refl
        | at_local u w ↦ λ ne. refl
        | at_field b g ↦ λ ne. elim (cases_eq b a) [
          | inl e ↦ subst (λ b. (at_field b g ≡ at_field a f → ⊥) → get_or (node_of (put_node s.nodes a m) b).cells g null_cell ≡ get_or (node_of s.nodes b).cells g null_cell) (sym e)
              (λ ne. ap (λ (m : Node). get_or m.cells g null_cell) there ∙ get-put_other null_cell n.cells f c g (λ e. ne (ap (at_field a) e))) ne
          | inr other ↦ ap (λ (m : Node). get_or m.cells g null_cell) (node-put_other s.nodes a m b same other)
        ]
      ];
      data_kept = record {
        locals = λ t x. refl;
        fields = λ b g. elim (cases_eq b a) [
          | inl e ↦ subst (λ b. get_or (node_of (put_node s.nodes a m) b).values g 0 ≡ get_or (node_of s.nodes b).values g 0) (sym e) (ap (λ (m : Node). get_or m.values g 0) there)
          | inr other ↦ ap (λ (m : Node). get_or m.values g 0) (node-put_other s.nodes a m b same other)
        ];
      };
      addresses = node_used s a m same;
    }

pub writes : (s : State) (p : Place) (c : Cell) → is_there s p ≡ true → Wrote s p c (put s p c)
writes s (at_shared i) c there = shared_wrote s i c
writes s (at_local t v) c there = local_wrote s t v c
writes s (at_field a f) c there = field_wrote s a f c there

pub writes_nothing : (s : State) (p : Place) (c : Cell) → is_there s p ≡ false → put s p c ≡ s
unfolding put is_used
writes_nothing s (at_shared i) c absent = cc
writes_nothing s (at_local t v) c absent = cc
writes_nothing s (at_field a f) c absent = ap (λ ns. record s { nodes = ns }) (put-absent s.nodes a (record (node_of s.nodes a) { cells = put_at null_cell (node_of s.nodes a).cells f c }) absent)

-- ---- data

pub writes_local : (s : State) (t x n : ℕ) → WroteLocal s t x n (put_value s t x n)
unfolding at value_at put_value
writes_local s t x n =
    let l : Locals = record (locals_of s t) { values = put_at 0 (locals_of s t).values x n } in
    let g = gives s t (Some l) in
    record {
      here = g.values x ∙ get-put_same 0 (locals_of s t).values x n;
      elsewhere = λ u y ne. elim (cases_eq u t) [
        | inl e ↦ subst (λ u. ((u ≡ t) × (y ≡ x) → ⊥) → value_at (with_locals s t (Some l)) u y ≡ value_at s u y) (sym e)
            (λ ne. g.values y ∙ get-put_other 0 (locals_of s t).values x n y (λ e. ne (refl, e))) ne
        | inr other ↦ g.other_values u y other
      ];
      others = g.field_values;
      pointers = elim [
        | at_shared j ↦ g.shared j
        | at_local u w ↦ elim (cases_eq u t) [
          | inl e ↦ subst (λ u. at (with_locals s t (Some l)) (at_local u w) ≡ at s (at_local u w)) (sym e) (g.pointers w)
          | inr other ↦ g.others u w other
        ]
        | at_field a f ↦ g.fields a f
      ];
      addresses = g.addresses;
    }

pub writes_field : (s : State) (a f n : ℕ) → is_used s a ≡ true → WroteField s a f n (put_field_value s a f n)
unfolding at value_at field_value put_field_value
writes_field s a f v used =
    let n = node_of s.nodes a in
    let m : Node = record n { values = put_at 0 n.values f v } in
    let same : m.address ≡ a = address-node_of s.nodes a in
    let there = node_wrote s a m same used in
    record {
      here = ap (λ (m : Node). get_or m.values f 0) there ∙ get-put_same 0 n.values f v;
      elsewhere = λ b g ne. elim (cases_eq b a) [
        | inl e ↦ subst (λ b. ((b ≡ a) × (g ≡ f) → ⊥) → get_or (node_of (put_node s.nodes a m) b).values g 0 ≡ get_or (node_of s.nodes b).values g 0) (sym e)
            (λ ne. ap (λ (m : Node). get_or m.values g 0) there ∙ get-put_other 0 n.values f v g (λ e. ne (refl, e))) ne
        | inr other ↦ ap (λ (m : Node). get_or m.values g 0) (node-put_other s.nodes a m b same other)
      ];
      others = λ t x. refl;
      pointers = elim [
        | at_shared j ↦ refl
        | at_local u w ↦ refl
        | at_field b g ↦ elim (cases_eq b a) [
          | inl e ↦ subst (λ b. get_or (node_of (put_node s.nodes a m) b).cells g null_cell ≡ get_or (node_of s.nodes b).cells g null_cell) (sym e) (ap (λ (m : Node). get_or m.cells g null_cell) there)
          | inr other ↦ ap (λ (m : Node). get_or m.cells g null_cell) (node-put_other s.nodes a m b same other)
        ]
      ];
      addresses = node_used s a m same;
    }

pub writes_no_field : (s : State) (a f n : ℕ) → is_used s a ≡ false → put_field_value s a f n ≡ s
unfolding put_field_value is_used
writes_no_field s a f v absent = ap (λ ns. record s { nodes = ns }) (put-absent s.nodes a (record (node_of s.nodes a) { values = put_at 0 (node_of s.nodes a).values f v }) absent)

or_none : (x y : Bool) → (x || (y || false)) ≡ (x || y)
or_none true y = refl
or_none false true = refl
or_none false false = refl

-- ---- a new node

pub makes : (s : State) (a : ℕ) → is_used s a ≡ false → WasMade s a (with_node s a)
unfolding at value_at field_value is_used is_retired with_node
makes s a unused =
    let m = fresh_node (length s.fields) a in
    let new = node-push_same s.nodes m a refl unused in
    let old = node-absent s.nodes a unused in
    let null : (f : ℕ) → get_or (node_of (s.nodes ++ m ∷ []) a).cells f null_cell ≡ null_cell = λ f. ap (λ (n : Node). get_or n.cells f null_cell) new ∙ get-replicate null_cell (length s.fields) f in
    let nought : (f : ℕ) → get_or (node_of (s.nodes ++ m ∷ []) a).values f 0 ≡ 0 = λ f. ap (λ (n : Node). get_or n.values f 0) new ∙ get-replicate 0 (length s.fields) f in
    record {
      null = null;
      nought = nought;
      pointers = elim [
        | at_shared i ↦ refl
        | at_local t v ↦ refl
        | at_field b f ↦ elim (cases_eq b a) [
          | inl e ↦ subst (λ b. get_or (node_of (s.nodes ++ m ∷ []) b).cells f null_cell ≡ get_or (node_of s.nodes b).cells f null_cell) (sym e) (null f ∙ sym (ap (λ (n : Node). get_or n.cells f null_cell) old))
          | inr other ↦ ap (λ (n : Node). get_or n.cells f null_cell) (node-push_other s.nodes m b (λ e. other (sym e)))
        ]
      ];
      data_kept = record {
        locals = λ t x. refl;
        fields = λ b f. elim (cases_eq b a) [
          | inl e ↦ subst (λ b. get_or (node_of (s.nodes ++ m ∷ []) b).values f 0 ≡ get_or (node_of s.nodes b).values f 0) (sym e) (nought f ∙ sym (ap (λ (n : Node). get_or n.values f 0) old))
          | inr other ↦ ap (λ (n : Node). get_or n.values f 0) (node-push_other s.nodes m b (λ e. other (sym e)))
        ];
      };
      used = λ b. list_any-append (λ n. n.address == b) s.nodes (m ∷ []) ∙ or_none (has_node s.nodes b) (a == b);
      retired = λ b. refl;
    }

-- ---- a retirement

pub retires : (s : State) (a : ℕ) → WasRetired s a (with_retired s a)
unfolding at value_at field_value is_used is_retired with_retired
retires s a = record {
  pointers = elim [
    | at_shared i ↦ refl
    | at_local t v ↦ refl
    | at_field b f ↦ refl
  ];
  data_kept = record { locals = λ t x. refl; fields = λ b f. refl };
  used = λ b. refl;
  retired = λ b. list_any-append (λ x. x == b) s.retired (a ∷ []) ∙ or_none (list_any (λ x. x == b) s.retired) (a == b);
}

-- ---- a free

zero_cut : (a : ℕ) → 0 < a → cut a null_cell ≡ null_cell
zero_cut a pos = ap (λ b. record null_cell { valid = not b }) (ne_eqb 0 a (λ e. absurd (omega arith)))

-- a table of cells that are cut
cut_table : (a : ℕ) → 0 < a → (xs : List Cell) (i : ℕ) → get_or (map (cut a) xs) i null_cell ≡ cut a (get_or xs i null_cell)
cut_table a pos xs i = ap (get_or (map (cut a) xs) i) (sym (zero_cut a pos)) ∙ get-map (cut a) xs i null_cell

cut_pointers : (a : ℕ) → 0 < a → (l : Option Locals) (v : ℕ) → get_or (unwrap_or (cut_locals a l) no_locals).pointers v null_cell ≡ cut a (get_or (unwrap_or l no_locals).pointers v null_cell)
cut_pointers a pos None v = sym (zero_cut a pos)
cut_pointers a pos (Some l) v = cut_table a pos l.pointers v

cut_values : (a : ℕ) (l : Option Locals) → (unwrap_or (cut_locals a l) no_locals).values ≡ (unwrap_or l no_locals).values
cut_values a None = refl
cut_values a (Some l) = refl

pub frees : (s : State) (a : ℕ) → 0 < a → WasFreed s a (freed s a)
unfolding locals_of at value_at field_value is_used is_retired freed
frees s a pos = record {
  shared = λ i. cut_table a pos s.shared i;
  locals = λ t v. ap (λ l. get_or (unwrap_or l no_locals).pointers v null_cell) (get-map (cut_locals a) s.locals t None) ∙ cut_pointers a pos (get_or s.locals t None) v;
  fields = λ b f ne. ap (λ (n : Node). get_or n.cells f null_cell) (node-stays s.nodes a b ne) ∙ cut_table a pos (node_of s.nodes b).cells f;
  gone = λ f. ap (λ (n : Node). get_or n.cells f null_cell) (node-gone s.nodes a);
  values = λ t x. ap (λ l. get_or (unwrap_or l no_locals).values x 0) (get-map (cut_locals a) s.locals t None) ∙ ap (λ (vs : List ℕ). get_or vs x 0) (cut_values a (get_or s.locals t None));
  field_values = λ b f ne. ap (λ (n : Node). get_or n.values f 0) (node-stays s.nodes a b ne);
  used = λ b. any-map (λ n. n.address) (cut_node a) (λ n. refl) (filter (λ n. not (n.address == a)) s.nodes) b ∙ any-without (λ n. n.address) s.nodes a b;
  retired = λ b. any-without (λ x. x) s.retired a b;
}

-- ---- the first state

pub fresh_is_null : (fields : List Bool) (shared threads : ℕ) (p : Place) → at (fresh_state fields shared threads) p ≡ null_cell
unfolding locals_of at
fresh_is_null fields shared threads (at_shared i) = get-replicate null_cell shared i
fresh_is_null fields shared threads (at_local t v) = ap (λ l. get_or (unwrap_or l no_locals).pointers v null_cell) (get-replicate None threads t)
fresh_is_null fields shared threads (at_field a f) = refl

pub fresh_is_unused : (fields : List Bool) (shared threads a : ℕ) → is_used (fresh_state fields shared threads) a ≡ false
unfolding is_used
fresh_is_unused fields shared threads a = refl

pub fresh_is_unretired : (fields : List Bool) (shared threads a : ℕ) → is_retired (fresh_state fields shared threads) a ≡ false
unfolding is_retired
fresh_is_unretired fields shared threads a = refl

-- places are told apart
pub cases_place : (p q : Place) → (p ≡ q) ⊎ (p ≡ q → ⊥)
cases_place (at_shared i) (at_shared j) = elim (cases_eq i j) [ inl e ↦ inl (ap at_shared e) | inr ne ↦ inr (λ e. ne (cc)) ]
cases_place (at_local t v) (at_local u w) = elim (cases_eq t u) [ inl e ↦ elim (cases_eq v w) [ inl f ↦ inl (cc) | inr ne ↦ inr (λ e. ne (cc)) ] | inr ne ↦ inr (λ e. ne (cc)) ]
cases_place (at_field t v) (at_field u w) = elim (cases_eq t u) [ inl e ↦ elim (cases_eq v w) [ inl f ↦ inl (cc) | inr ne ↦ inr (λ e. ne (cc)) ] | inr ne ↦ inr (λ e. ne (cc)) ]
cases_place p q = inr (λ e. cc)

pub memory_laws : MemoryLaws
memory_laws = record {
  null_is_valid = refl;
  writes = writes;
  writes_nothing = writes_nothing;
  writes_local = writes_local;
  writes_field = writes_field;
  writes_no_field = writes_no_field;
  makes = makes;
  retires = retires;
  frees = frees;
  gives = gives;
  first = λ fields shared threads. record { null = fresh_is_null fields shared threads; unused = fresh_is_unused fields shared threads; unretired = fresh_is_unretired fields shared threads };
}
