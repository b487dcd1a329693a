-- What a setting lists as nodes has the sort of nodes.
use Rattle.std.proofs.Common.{◌≡◌, ◌==◌, ◌<◌, ℕ, suc, ◌+◌, Bool, true, false, not, cond, List, [], ◌∷◌, ◌++◌, length}
use Rattle.std.proofs.Common.{map, get_or, slice_get, All, refl, ap, ◌∙◌, arith}
use Rattle.std.proofs.lemmas.List.Elements.{All-nil, All-cons, All-append, All-map, All-from_get_or}
use Rattle.std.proofs.lemmas.Option.{slice_get-get_or}
use Rattle.plc_base.specs.declared.ids.FieldId.{FieldId}
use Rattle.plc_lang.specs.declared.syntax.Field.{Field}
use Rattle.plc_lang.specs.declared.syntax.Local.{Local}
use Rattle.plc_lang.specs.Locals.{is_pointer, is_data}
use Rattle.plc_lang.specs.Numbering.{places_from}
use Rattle.plc_flow.specs.declared.flow.Flow.{Flow}
use Rattle.plc_logic.specs.declared.clause.Sort.{Sort}
use Rattle.plc_logic.specs.declared.clause.Sort.TheVariants as sorts
use Rattle.plc_logic.specs.declared.clause.Outline.{Outline}
use Rattle.plc_logic.specs.Fit.{pointer_sort}
use Rattle.plc_ground.specs.declared.terms.Symbol.{Symbol}
use Rattle.plc_ground.specs.declared.terms.Symbol.TheVariants as symbols
use Rattle.plc_ground.specs.declared.terms.Map.TheVariants as maps
use Rattle.plc_symbolic.specs.declared.symbolic.NodeTerm.{NodeTerm}
use Rattle.plc_symbolic.specs.declared.symbolic.NodeTerm.TheVariants.{At, Target}
use Rattle.plc_symbolic.specs.Terms.{term_of}
use Rattle.plc_vocabulary.specs.declared.acts.Act.{Act}
use Rattle.plc_vocabulary.specs.declared.acts.Act.TheVariants.{Assign, Make, Fetch, FetchMarked, Update}
use Rattle.plc_vocabulary.specs.declared.acts.Act.TheVariants.{Test, Differ, Skip}
use Rattle.plc_vocabulary.specs.declared.obligations.Obligation.{Obligation}
use Rattle.plc_vocabulary.specs.Parts.{acting_locals, owner_locals}
use Rattle.plc_vocabulary.specs.Setting.{below, local_symbol, variables_of, pointer_loads_from, only_if, node_constants}
use Rattle.plc_vocabulary.specs.Setting.{plain_constants, pointer_fields_from, fields_of, targets_of, nodes_of}
use Rattle.plc_vocabulary.specs.Setting.{mark_constants, setting_of}
use Rattle.plc_vocabulary.specs.Acts.{mark_of}
use Rattle.plc_vocabulary.specs.Sorts.{field_sort, local_sort, load_sort, loads_of, map_sort, symbol_sort, sort_of}
use Rattle.plc_vocabulary.specs.WellSorted.{VariablesFit, NodesFit}
use Rattle.plc_vocabulary.proofs.ActSorts.{kind_at_place, mark_sort}

module _ (flow : Flow) (o : Obligation) (acts : List Act) where
  abbrev sort : Symbol → Sort
  sort s = symbol_sort flow o acts s

  abbrev IsNode : Symbol → Type 0
  IsNode s = sort s ≡ sorts.Node

  abbrev IsMark : Symbol → Type 0
  IsMark s = sort s ≡ sorts.Truth

  abbrev IsTerm : NodeTerm → Type 0
  IsTerm n = sort_of flow o acts (term_of n) ≡ sorts.Node

  abbrev HoldsNodes : FieldId → Type 0
  HoldsNodes f = map_sort flow.file (maps.Field f) ≡ sorts.Node

  -- the locals of a kind
  of_kind : (b : Bool) (ls : List Local) (k : Local → Bool) (want : Sort)
      → ((p : ℕ) → sort (local_symbol b p) ≡ local_sort (slice_get ls p))
      → ((l : Local) → k l ≡ true → pointer_sort l.pointer ≡ want)
      → All (λ s. sort s ≡ want) (map (local_symbol b) (places_from k 0 ls))
  of_kind b ls k want named kind =
      let places = places_from k 0 ls in
      let each : (i : ℕ) → i < length places → sort (local_symbol b (get_or places i 0)) ≡ want = λ i less.
      let p = get_or places i 0 in
      let s = kind_at_place k ls 0 i p (slice_get-get_or places i 0 less) in
      let same : p ≡ s.0 = omega (arith, s.2) in
      named p ∙ ap (λ n. local_sort (slice_get ls n)) same ∙ ap local_sort s.3 ∙ kind s.1 s.4 in
      All-map (λ s. sort s ≡ want) (local_symbol b) places
      (All-from_get_or (λ p. sort (local_symbol b p) ≡ want) places 0 each)

  data_kind : (l : Local) → is_data l ≡ true → pointer_sort l.pointer ≡ sorts.Number
  data_kind l e = go l.pointer e
    where
      go : (b : Bool) → not b ≡ true → pointer_sort b ≡ sorts.Number
      go true h = absurd cc
      go false h = refl

  variables_fit : (b : Bool) (ls : List Local) → ((p : ℕ) → sort (local_symbol b p) ≡ local_sort (slice_get ls p))
      → VariablesFit sort (variables_of b ls)
  variables_fit b ls named = record {
    pointers = of_kind b ls is_pointer sorts.Node named (λ l e. ap pointer_sort e);
    values = of_kind b ls is_data sorts.Number named data_kind;
  }

  -- what is read, from the read with a number on
  abbrev Reads : ℕ → List Bool → Type 0
  Reads k rs = (j : ℕ) → slice_get (loads_of acts) (k + j) ≡ slice_get rs j

  next_reads : (k : ℕ) (b : Bool) (rs : List Bool) → Reads k (b ∷ rs) → Reads (k + 1) rs
  next_reads k b rs e = λ j.
      let next : k + 1 + j ≡ k + suc j = omega arith in
      ap (slice_get (loads_of acts)) next ∙ e (suc j)

  read_node : (k : ℕ) (more : List Act) → Reads k (true ∷ loads_of more) → All IsNode (pointer_loads_from (k + 1) more)
      → All IsNode (symbols.Loaded k ∷ pointer_loads_from (k + 1) more)
  read_node k more e rest =
      let here : k ≡ k + 0 = omega arith in
      let node = ap (λ n. load_sort (slice_get (loads_of acts) n)) here ∙ ap load_sort (e 0) in
      All-cons IsNode (symbols.Loaded k) (pointer_loads_from (k + 1) more) node rest

  -- what is read into pointers
  load_nodes : (k : ℕ) (more : List Act) → Reads k (loads_of more) → All IsNode (pointer_loads_from k more)
  load_nodes k [] e = All-nil IsNode
  load_nodes k (Fetch p q f true ∷ more) e =
      read_node k more e (load_nodes (k + 1) more (next_reads k true (loads_of more) e))
  load_nodes k (Fetch p q f false ∷ more) e = load_nodes (k + 1) more (next_reads k false (loads_of more) e)
  load_nodes k (FetchMarked p q f ∷ more) e =
      read_node k more e (load_nodes (k + 1) more (next_reads k true (loads_of more) e))
  load_nodes k (Assign p x ∷ more) e = load_nodes k more e
  load_nodes k (Make p ∷ more) e = load_nodes k more e
  load_nodes k (Update c m p x ∷ more) e = load_nodes k more e
  load_nodes k (Test a b equal ∷ more) e = load_nodes k more e
  load_nodes k (Differ a b ∷ more) e = load_nodes k more e
  load_nodes k (Skip ∷ more) e = load_nodes k more e

  loads_fit : All IsNode (pointer_loads_from 0 acts)
  loads_fit = load_nodes 0 acts (λ j. (let same : 0 + j ≡ j = omega arith in ap (slice_get (loads_of acts)) same))

  marks_fit : (marked : Bool) (pointers loads : List Symbol) → All IsMark (mark_constants marked pointers loads)
  marks_fit true pointers loads =
      All-map IsMark mark_of (pointers ++ loads) (λ i d less. mark_sort flow o acts (get_or (pointers ++ loads) i d))
  marks_fit false pointers loads = All-nil IsMark

  made_fit : (b : Bool) → All IsNode (only_if b (symbols.New ∷ []))
  made_fit true = All-cons IsNode symbols.New [] refl (All-nil IsNode)
  made_fit false = All-nil IsNode

  shared_fit : (n : ℕ) → All IsNode (map symbols.Shared (below n))
  shared_fit n = All-map IsNode symbols.Shared (below n) (λ i d less. refl)

  bound_fit : (n : ℕ) → All IsNode (map symbols.Bound (below n))
  bound_fit n = All-map IsNode symbols.Bound (below n) (λ i d less. refl)

  plain_fit : (pointers : List Symbol) (bound : ℕ) (loads : List Symbol) → All IsNode pointers → All IsNode loads
      → All IsNode (plain_constants pointers bound loads)
  plain_fit pointers bound loads p l =
      All-append IsNode pointers (map symbols.Bound (below bound) ++ loads) p
      (All-append IsNode (map symbols.Bound (below bound)) loads (bound_fit bound) l)

  constants_fit : (pointers : List Symbol) (makes : Bool) (bound : ℕ) (loads : List Symbol) → All IsNode pointers
      → All IsNode loads → All IsNode (node_constants pointers makes bound loads)
  constants_fit pointers makes bound loads p l =
      let rest = map symbols.Bound (below bound) ++ loads in
      let made =
      All-append IsNode (only_if makes (symbols.New ∷ [])) rest (made_fit makes)
      (All-append IsNode (map symbols.Bound (below bound)) loads (bound_fit bound) l) in
      All-cons IsNode symbols.Null (pointers ++ (only_if makes (symbols.New ∷ []) ++ rest)) refl
      (All-append IsNode pointers (only_if makes (symbols.New ∷ []) ++ rest) p made)

  -- pointer fields
  targets_fit : (fs : List FieldId) (cs : List Symbol) → All HoldsNodes fs → All IsTerm (targets_of fs cs)
  targets_fit fs [] h = All-nil IsTerm
  targets_fit fs (s ∷ cs) h =
      All-append IsTerm (fields_of fs s) (targets_of fs cs) (All-map IsTerm (λ f. Target f s) fs h)
      (targets_fit fs cs h)

  deep_fit : (deep : Bool) (ns : List NodeTerm) → All IsTerm ns → All IsTerm (only_if deep ns)
  deep_fit true ns h = h
  deep_fit false ns h = All-nil IsTerm

  terms_fit : (ss : List Symbol) (deep : Bool) (cs : List Symbol) (fs : List FieldId) → All IsNode ss
      → All HoldsNodes fs → All IsTerm (nodes_of ss deep cs fs)
  terms_fit ss deep cs fs s h =
      All-append IsTerm (map At ss) (only_if deep (targets_of fs cs)) (All-map IsTerm At ss s)
      (deep_fit deep (targets_of fs cs) (targets_fit fs cs h))

  field_nodes : (k : ℕ) (fs : List Field) → ((j : ℕ) → slice_get flow.file.fields (k + j) ≡ slice_get fs j)
      → All HoldsNodes (pointer_fields_from k fs)
  field_nodes k [] e = All-nil HoldsNodes
  field_nodes k (f ∷ fs) e =
      let here : k ≡ k + 0 = omega arith in
      let first : field_sort (slice_get flow.file.fields k) ≡ pointer_sort f.pointer =
      ap (λ n. field_sort (slice_get flow.file.fields n)) here ∙ ap field_sort (e 0) in
      go f.pointer first (field_nodes (k + 1) fs
      (λ j. (let next : k + 1 + j ≡ k + suc j = omega arith in ap (slice_get flow.file.fields) next ∙ e (suc j))))
    where
      go : (y : Bool) → field_sort (slice_get flow.file.fields k) ≡ pointer_sort y
          → All HoldsNodes (pointer_fields_from (k + 1) fs)
          → All HoldsNodes (cond y (record { 0 = k } ∷ pointer_fields_from (k + 1) fs) (pointer_fields_from (k + 1) fs))
      go true first rest = All-cons HoldsNodes (record { 0 = k }) (pointer_fields_from (k + 1) fs) first rest
      go false first rest = rest

  fields_fit : All HoldsNodes (pointer_fields_from 0 flow.file.fields)
  fields_fit =
      field_nodes 0 flow.file.fields (λ j. (let same : 0 + j ≡ j = omega arith in ap (slice_get flow.file.fields) same))

pub nodes_fit : (flow : Flow) (outline : Outline) (o : Obligation) → NodesFit flow o (setting_of flow outline o)
nodes_fit flow outline o =
    let s = setting_of flow outline o in
    let mine = variables_fit flow o s.acts false (acting_locals flow o) (λ p. refl) in
    let theirs = variables_fit flow o s.acts true (owner_locals flow o) (λ p. refl) in
    let both =
    All-append (λ c. symbol_sort flow o s.acts c ≡ sorts.Node) s.mine.pointers s.theirs.pointers
    mine.pointers theirs.pointers in
    let pointers =
    All-append (λ c. symbol_sort flow o s.acts c ≡ sorts.Node)
    (map symbols.Shared (below (length flow.file.shared))) (s.mine.pointers ++ s.theirs.pointers)
    (shared_fit flow o s.acts (length flow.file.shared)) both in
    let loads = loads_fit flow o s.acts in
    let constants =
    constants_fit flow o s.acts s.pointers s.makes s.bound (pointer_loads_from 0 s.acts) pointers loads in
    let plain = plain_fit flow o s.acts s.pointers s.bound (pointer_loads_from 0 s.acts) pointers loads in
    let fields = fields_fit flow o s.acts in
    record {
      mine = mine;
      theirs = theirs;
      pointers = pointers;
      constants = constants;
      nodes = terms_fit flow o s.acts s.constants (outline.depth == 1) s.constants s.fields constants fields;
      instances =
          terms_fit flow o s.acts (plain_constants s.pointers s.bound (pointer_loads_from 0 s.acts))
          (outline.depth == 1) s.constants s.fields plain fields;
      fields = fields;
      marks = marks_fit flow o s.acts s.marked s.pointers (pointer_loads_from 0 s.acts);
    }
