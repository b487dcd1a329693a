-- The nodes of a ground set are nodes, and each but the new one was made before.
use Rattle.std.proofs.Common.{◌≡◌, ℕ, suc, ◌+◌, ◌<◌, ◌≤◌, Bool, true, false, List, [], ◌∷◌, ◌++◌, map, Some, slice_get}
use Rattle.std.proofs.Common.{refl, ap, ◌∙◌, arith}
use Rattle.std.specs.Prelude.{if◌then◌else◌}
use Rattle.std.proofs.lemmas.Bool.{eq-eqb}
use Rattle.plc_base.specs.declared.ids.FieldId.{FieldId}
use Rattle.plc_lang.specs.declared.syntax.Field.{Field}
use Rattle.plc_lang.specs.declared.syntax.File.{File}
use Rattle.plc_lang.specs.declared.syntax.Local.{Local}
use Rattle.plc_lang.specs.Locals.{is_pointer}
use Rattle.plc_lang.specs.Numbering.{places_from, pointer_number, data_number}
use Rattle.plc_lang.specs.WellSorted.{FieldIs}
use Rattle.plc_logic.specs.declared.clause.Sort.TheVariants as sorts
use Rattle.plc_logic.specs.Fit.{pointer_sort}
use Rattle.plc_ground.specs.declared.terms.Symbol.{Symbol}
use Rattle.plc_ground.specs.declared.terms.Symbol.TheVariants as symbols
use Rattle.plc_ground.specs.declared.terms.Map.TheVariants as maps
use Rattle.plc_vocabulary.specs.declared.acts.Act.{Act}
use Rattle.plc_vocabulary.specs.declared.acts.Act.TheVariants.{Assign, Make, Fetch, FetchMarked, Update, Test}
use Rattle.plc_vocabulary.specs.declared.acts.Act.TheVariants.{Differ, Skip}
use Rattle.plc_vocabulary.specs.Setting.{below, only_if, local_symbol, variables_of, pointer_variables, pointer_loads_from}
use Rattle.plc_vocabulary.specs.Setting.{node_constants, plain_constants, pointer_fields_from, targets_of}
use Rattle.plc_vocabulary.specs.Setting.{nodes_of}
use Rattle.plc_vocabulary.specs.Sorts.{field_sort, local_sort}
use Rattle.plc_encoding.specs.declared.execution.Execution.{Execution}
use Rattle.plc_encoding.specs.Execution.{start, after}
use Rattle.plc_symbolic.specs.declared.symbolic.NodeTerm.{NodeTerm}
use Rattle.plc_symbolic.specs.declared.symbolic.NodeTerm.TheVariants.{At, Target}
use Rattle.plc_gc.specs.declared.slot.Slot.TheVariants.{Local as in_local, Data as in_data}
use Rattle.plc_gc.specs.declared.slot.Map.TheVariants.{Pointer as pointer_field, Number as data_field}
use Rattle.plc_gc.specs.State.{GcState, value, entry, count}
use Rattle.plc_gc.specs.Clauses.{declared_map, declared_value}
use Rattle.plc_gc.specs.Ranges.{IsInRange}
use Rattle.plc_flow.proofs.Each.{Each, each_both, each_so}
use Rattle.plc_oblig.proofs.Lists.{each_flat, each_map, each_all, each_from}
use Rattle.plc_outline_sound.proofs.Acts.{View, act_after, fetched, ReadsBelow, ActsRun}
use Rattle.plc_outline_sound.proofs.Fetches.{is_fetch}
use Rattle.plc_outline_sound.proofs.Meaning.{Meaning, node_in, node_sort}
use Rattle.plc_outline_sound.proofs.Future.{Foresees, later}
use Rattle.plc_outline_sound.proofs.Sorted.{LoadIs, LoadsAre, load_first}
use Rattle.plc_outline_sound.proofs.Scene.{Scene, locals_for, thread_for, gc_map}
use Rattle.plc_outline_sound.proofs.Reading.{Means, local_is, local_named}

-- the first state: what the meaning says of it, and the number of the next node
pub record IsBefore (e : Meaning) (file : File) (w : Scene) (g : GcState) (limit : ℕ) : Type 0 where
  pub means : Means e file w start g
  pub ranges : IsInRange g
  pub node : w.node ≡ count g
  pub few : count g ≤ limit
  pub fields : g.fields ≡ file.fields

-- a constant that is a node below a number
pub record IsBelow (e : Meaning) (n : ℕ) (s : Symbol) : Type 0 where
  pub sort : e.symbol_sort s ≡ sorts.Node
  pub below : e.symbol s < n

-- a term that is
pub record IsTermBelow (e : Meaning) (n : ℕ) (t : NodeTerm) : Type 0 where
  pub sort : node_sort e t ≡ sorts.Node
  pub below : node_in e t < n

-- ---- the places of a kind

abbrev pub IsPlace : (Local → Bool) → List Local → ℕ → Type 0
IsPlace kind ls k = (l : Local) × (slice_get ls k ≡ Some l) × (kind l ≡ true)

each_place_from : (kind : Local → Bool) (before : ℕ) (ls all : List Local)
    → ((j : ℕ) (l : Local) → slice_get ls j ≡ Some l → slice_get all (before + j) ≡ Some l)
    → Each (IsPlace kind all) (places_from kind before ls)
each_place_from kind before [] all h = tt
each_place_from kind before (l ∷ ls) all h = go (kind l) refl
    (each_place_from kind (before + 1) ls all
    (λ j m at. ap (slice_get all) (let same : before + 1 + j ≡ before + suc j = omega arith in same) ∙ h (suc j) m at))
  where
    go : (b : Bool) → kind l ≡ b → Each (IsPlace kind all) (places_from kind (before + 1) ls)
        → Each (IsPlace kind all) (if b then before ∷ places_from kind (before + 1) ls else places_from kind
        (before + 1) ls)
    go true is rest =
        ((l, ap (slice_get all) (let same : before ≡ before + 0 = omega arith in same) ∙ h 0 l refl, is), rest)
    go false is rest = rest

pub each_place_of : (kind : Local → Bool) (ls : List Local) → Each (IsPlace kind ls) (places_from kind 0 ls)
each_place_of kind ls = each_place_from kind 0 ls ls
    (λ j l at. ap (slice_get ls) (let same : 0 + j ≡ j = omega arith in same) ∙ at)

-- ---- the pointer fields

each_field_from : (file : File) (k : ℕ) (fs : List Field)
    → ((j : ℕ) (f : Field) → slice_get fs j ≡ Some f → slice_get file.fields (k + j) ≡ Some f)
    → Each (FieldIs file true) (pointer_fields_from k fs)
each_field_from file k [] h = tt
each_field_from file k (f ∷ fs) h = go f.pointer refl
    (each_field_from file (k + 1) fs
    (λ j d at. ap (slice_get file.fields) (let same : k + 1 + j ≡ k + suc j = omega arith in same) ∙ h (suc j) d at))
  where
    go : (b : Bool) → f.pointer ≡ b → Each (FieldIs file true) (pointer_fields_from (k + 1) fs)
        → Each (FieldIs file true) (if b then record { 0 = k } ∷ pointer_fields_from (k + 1) fs
        else pointer_fields_from (k + 1) fs)
    go true is rest =
        ((f, ap (slice_get file.fields) (let same : k ≡ k + 0 = omega arith in same) ∙ h 0 f refl, is), rest)
    go false is rest = rest

pub each_pointer_field : (file : File) → Each (FieldIs file true) (pointer_fields_from 0 file.fields)
each_pointer_field file = each_field_from file 0 file.fields
    (λ j f at. ap (slice_get file.fields) (let same : 0 + j ≡ j = omega arith in same) ∙ at)

-- ---- what is read into pointers

pub loads_below : (e : Meaning) (node limit : ℕ) (acts : List Act) (x : Execution) (v u : View) → Foresees e x v acts
    → ActsRun node limit v acts u → LoadsAre e x acts → Each (IsBelow e limit) (pointer_loads_from x.loads acts)
loads_below e node limit [] x v u f run h = tt
loads_below e node limit (a ∷ more) x v u f run h =
    let l = load_first e a x more h in
    go a f run.0.below l.0 (loads_below e node limit more (after x a) (act_after v a) u
    (later e x v a more f) run.1 l.1)
  where
    -- what is read as the next
    read : (a : Act) → is_fetch a ≡ true → Foresees e x v (a ∷ more) → e.symbol (symbols.Loaded x.loads) ≡ fetched v a
    read a is f = f.loads x.loads (omega arith) ∙ rw (is, eq-eqb x.loads x.loads refl) refl

    go : (a : Act) → Foresees e x v (a ∷ more) → ReadsBelow limit v a → LoadIs e x.loads a
        → Each (IsBelow e limit) (pointer_loads_from (after x a).loads more)
        → Each (IsBelow e limit) (pointer_loads_from x.loads (a ∷ more))
    go (Assign p s) f small sort rest = rest
    go (Make p) f small sort rest = rest
    go (Fetch p q g true) f small sort rest =
        (record { sort = sort; below = (let same = read (Fetch p q g true) refl f in omega arith) }, rest)
    go (Fetch p q g false) f small sort rest = rest
    go (FetchMarked p q g) f small sort rest = (
      record {
        sort = sort;
        below = (let same = read (FetchMarked p q g) refl f in let low = small.0 in omega arith);
      },
      rest,
    )
    go (Update checked m p s) f small sort rest = rest
    go (Test a b equal) f small sort rest = rest
    go (Differ a b) f small sort rest = rest
    go Skip f small sort rest = rest

module _ (e : Meaning) (file : File) (w : Scene) (g : GcState) (limit : ℕ) (before : IsBefore e file w g limit) where
  -- ---- pointer variables

  shared_below : (i : ℕ) → IsBelow e (count g) (symbols.Shared i)
  shared_below i = record {
    sort = before.means.sorts_are.shared i;
    below = (let same = before.means.now.value (symbols.Shared i) refl in
        let small = before.ranges.shared i in omega arith);
  }

  local_below : (owner : Bool) (k : ℕ) → IsPlace is_pointer (locals_for w owner) k
      → IsBelow e (count g) (local_symbol owner k)
  local_below owner k is =
      let t = thread_for w owner in
      let ls = locals_for w owner in
      record {
        sort = sorted owner k ∙ ap local_sort is.1 ∙ ap pointer_sort is.2;
        below = (let same = before.means.now.value (local_symbol owner k) (local_named owner k)
            ∙ local_is w g owner k ∙ ap (declared_value g t ls k) is.1
            ∙ ap (λ b. if b then value g (in_local t (pointer_number ls k)) else value g
            (in_data t (data_number ls k))) is.2 in
            let small = before.ranges.locals t (pointer_number ls k) in omega arith);
      }
    where
      sorted : (owner : Bool) (k : ℕ)
          → e.symbol_sort (local_symbol owner k) ≡ local_sort (slice_get (locals_for w owner) k)
      sorted false k = before.means.sorts_are.my k
      sorted true k = before.means.sorts_are.other k

  pub pointers_below : (shared : ℕ)
      → Each (IsBelow e (count g)) (pointer_variables shared (variables_of false w.mine) (variables_of true w.theirs))
  pointers_below shared = each_both (IsBelow e (count g)) (map symbols.Shared (below shared))
      ((variables_of false w.mine).pointers ++ (variables_of true w.theirs).pointers)
      (each_map (IsBelow e (count g)) symbols.Shared (below shared)
      (each_all (λ i. IsBelow e (count g) (symbols.Shared i)) shared_below (below shared)))
      (each_both (IsBelow e (count g)) (variables_of false w.mine).pointers (variables_of true w.theirs).pointers
      (each_map (IsBelow e (count g)) (local_symbol false) (places_from is_pointer 0 w.mine)
      (each_so (IsPlace is_pointer w.mine) (λ k. IsBelow e (count g) (symbols.Mine k)) (local_below false)
      (places_from is_pointer 0 w.mine) (each_place_of is_pointer w.mine)))
      (each_map (IsBelow e (count g)) (local_symbol true) (places_from is_pointer 0 w.theirs)
      (each_so (IsPlace is_pointer w.theirs) (λ k. IsBelow e (count g) (symbols.Theirs k)) (local_below true)
      (places_from is_pointer 0 w.theirs) (each_place_of is_pointer w.theirs))))

  weaker : (s : Symbol) → IsBelow e (count g) s → IsBelow e limit s
  weaker s h = record { sort = h.sort; below = (let a = h.below in let b = before.few in omega arith) }

  -- ---- the constants that are nodes

  null_below : IsBelow e (count g) symbols.Null
  null_below = record {
    sort = before.means.sorts_are.null;
    below = (let same = before.means.constants symbols.Null refl refl in
        let some = before.ranges.null_made in omega arith);
  }

  pub new_is : e.symbol symbols.New ≡ count g
  new_is = before.means.constants symbols.New refl refl ∙ before.node

  made_below : (makes : Bool) → (makes ≡ true → count g < limit) → Each (IsBelow e limit) (only_if makes (symbols.New ∷ []))
  made_below true h = (
    record {
      sort = before.means.sorts_are.new;
      below = (let a = h refl in let b = new_is in omega arith);
    },
    tt,
  )
  made_below false h = tt

  bound_below : (n : ℕ) → ((i : ℕ) → i < n → w.bound i < limit) → Each (IsBelow e limit) (map symbols.Bound (below n))
  bound_below n h = each_map (IsBelow e limit) symbols.Bound (below n)
      (each_from (λ i. IsBelow e limit (symbols.Bound i)) 0 n (λ i low high. record {
        sort = before.means.sorts_are.bound i;
        below = (let same = before.means.constants (symbols.Bound i) refl refl in
            let small = h i (omega arith) in omega arith);
      }))

  module _ (pointers loads : List Symbol) (makes : Bool) (bound : ℕ) (ps : Each (IsBelow e (count g)) pointers)
      (ls : Each (IsBelow e limit) loads)
      (made : makes ≡ true → count g < limit) (bs : (i : ℕ) → i < bound → w.bound i < limit) where
    pub constants_below : Each (IsBelow e limit) (node_constants pointers makes bound loads)
    constants_below = (
      weaker symbols.Null null_below,
      each_both (IsBelow e limit) pointers (only_if makes (symbols.New ∷ []) ++ (map symbols.Bound (below bound) ++ loads))
          (each_so (IsBelow e (count g)) (IsBelow e limit) weaker pointers ps)
          (each_both (IsBelow e limit) (only_if makes (symbols.New ∷ [])) (map symbols.Bound (below bound) ++ loads)
          (made_below makes made)
          (each_both (IsBelow e limit) (map symbols.Bound (below bound)) loads (bound_below bound bs) ls)),
    )

    pub plain_below : Each (IsBelow e limit) (plain_constants pointers bound loads)
    plain_below = each_both (IsBelow e limit) pointers (map symbols.Bound (below bound) ++ loads)
        (each_so (IsBelow e (count g)) (IsBelow e limit) weaker pointers ps)
        (each_both (IsBelow e limit) (map symbols.Bound (below bound)) loads (bound_below bound bs) ls)

  -- ---- fields of nodes

  -- a pointer field of any node leads to one that was made before
  pub field_below : (f : FieldId) → FieldIs file true f → (n : ℕ)
      → (e.map_sort (maps.Field f) ≡ sorts.Node) × (e.version (maps.Field f) 0 n < count g)
  field_below f is n =
      let there : gc_map g (maps.Field f) ≡ pointer_field f.0 =
      ap (λ fs. declared_map f.0 (slice_get fs f.0)) before.fields ∙ ap (declared_map f.0) is.1
      ∙ ap (λ b. if b then pointer_field f.0 else data_field f.0) is.2 in (
        before.means.sorts_are.maps (maps.Field f) ∙ ap field_sort is.1 ∙ ap pointer_sort is.2,
        (let same = before.means.entries (maps.Field f) n ∙ ap (λ m. entry g m n) there in
            let small = before.ranges.fields f.0 n in omega arith),
      )

  after_below : (fs : List FieldId) (ss : List Symbol) → Each (FieldIs file true) fs
      → Each (IsTermBelow e limit) (targets_of fs ss)
  after_below fs ss h = each_flat (IsTermBelow e limit) (λ s. map (λ f. Target f s) fs) ss
      (each_all (λ s. Each (IsTermBelow e limit) (map (λ f. Target f s) fs))
      (λ s. each_map (IsTermBelow e limit) (λ f. Target f s) fs
      (each_so (FieldIs file true) (λ f. IsTermBelow e limit (Target f s)) (λ f is. record {
        sort = (field_below f is (e.symbol s)).0;
        below = (let a = (field_below f is (e.symbol s)).1 in let b = before.few in omega arith);
      }) fs h)) ss)

  deep_below : (deep : Bool) (ns : List NodeTerm) → Each (IsTermBelow e limit) ns
      → Each (IsTermBelow e limit) (only_if deep ns)
  deep_below true ns h = h
  deep_below false ns h = tt

  pub nodes_below : (ss : List Symbol) (deep : Bool) (constants : List Symbol) (fs : List FieldId)
      → Each (FieldIs file true) fs → Each (IsBelow e limit) ss
      → Each (IsTermBelow e limit) (nodes_of ss deep constants fs)
  nodes_below ss deep constants fs fields h = each_both (IsTermBelow e limit) (map At ss)
      (only_if deep (targets_of fs constants))
      (each_map (IsTermBelow e limit) At ss
      (each_so (IsBelow e limit) (λ s. IsTermBelow e limit (At s))
      (λ s b. record { sort = b.sort; below = b.below }) ss h))
      (deep_below deep (targets_of fs constants) (after_below fs constants fields))
