-- The acts of primitives put into variables and maps what is of their sort.
use Rattle.std.proofs.Common.{◌≡◌, ℕ, suc, ◌+◌, ◌<◌, Bool, true, false, List, [], ◌∷◌, length, Some, slice_get, refl}
use Rattle.std.proofs.Common.{sym, ap, ◌∙◌, arith}
use Rattle.plc_base.specs.Functions.{is_retire}
use Rattle.plc_base.specs.declared.ids.FieldId.{FieldId}
use Rattle.plc_lang.specs.declared.syntax.Arg.{Arg}
use Rattle.plc_lang.specs.declared.syntax.Arg.TheVariants as args
use Rattle.plc_lang.specs.declared.syntax.File.{File}
use Rattle.plc_lang.specs.declared.syntax.Ghost.{Ghost as AuxiliaryField}
use Rattle.plc_lang.specs.declared.syntax.GhostVal.{GhostVal}
use Rattle.plc_lang.specs.declared.syntax.GhostVal.TheVariants as ghost_values
use Rattle.plc_lang.specs.declared.syntax.Rel.{Rel}
use Rattle.plc_lang.specs.declared.syntax.Rel.TheVariants as rels
use Rattle.plc_lang.specs.declared.syntax.Var.{Var}
use Rattle.plc_lang.specs.declared.syntax.Primitive.{Primitive}
use Rattle.plc_lang.specs.declared.syntax.Primitive.TheVariants.{Null, Copy, New, Load, Store, StoreNull, DataSet}
use Rattle.plc_lang.specs.declared.syntax.Primitive.TheVariants.{DataLoad, DataStore, Eq, Ne, IsNull, NotNull, DataTest}
use Rattle.plc_lang.specs.declared.syntax.Primitive.TheVariants.{Refresh, RefreshLoad, RefreshStore, Mark, Unmark}
use Rattle.plc_lang.specs.declared.syntax.Primitive.TheVariants.{MarkTest, Call, Done, Active, Ghost}
use Rattle.plc_lang.specs.Numbering.{value_number}
use Rattle.plc_lang.specs.Shape.{Shape, VarIn, ArgIn, PrimitiveIn, PrimitivesIn}
use Rattle.plc_lang.specs.WellSorted.{FieldIs, ValueFits, IsWellSorted, AreWellSorted}
use Rattle.plc_lang.proofs.Numbers.{values_are_numbered}
use Rattle.plc_logic.specs.declared.clause.Sort.TheVariants as sorts
use Rattle.plc_logic.specs.Fit.{pointer_sort, ghost_sort}
use Rattle.plc_ground.specs.declared.terms.Symbol.{Symbol}
use Rattle.plc_ground.specs.declared.terms.Symbol.TheVariants as symbols
use Rattle.plc_ground.specs.declared.terms.Map.TheVariants as maps
use Rattle.plc_vocabulary.specs.declared.acts.Act.{Act}
use Rattle.plc_vocabulary.specs.declared.acts.Act.TheVariants.{Assign, Make, Fetch, FetchMarked, Update, Test}
use Rattle.plc_vocabulary.specs.declared.acts.Act.TheVariants.{Differ, Skip}
use Rattle.plc_vocabulary.specs.Acts.{symbol_at, pointer_symbol, ghost_symbol, data_test, call_act, act_of, truth}
use Rattle.plc_vocabulary.specs.Acts.{assign_marked, store_marked, marked_acts, acts_of_primitive, acts_of}
use Rattle.plc_vocabulary.specs.Setting.{variables_of}
use Rattle.plc_vocabulary.specs.Sorts.{field_sort, auxiliary_sort, value_sort, loads_of, load_sort}
use Rattle.plc_encoding.specs.declared.execution.Execution.{Execution}
use Rattle.plc_encoding.specs.Execution.{after}
use Rattle.plc_outline_sound.proofs.Executed.{ActIsSorted, AreSorted}
use Rattle.plc_outline_sound.proofs.Meaning.{Meaning}
use Rattle.plc_outline_sound.proofs.Scene.{Scene}
use Rattle.plc_outline_sound.proofs.Variables.{SortsAre, mark_sort, ShapeFits, variable, local_pointer, local_data, amount}
use Rattle.plc_flow.proofs.Each.{Each, each_both}

-- what is read is of the sort of what it goes into; k fields were read before
abbrev pub LoadIs : Meaning → ℕ → Act → Type 0
LoadIs e k (Assign p s) = Unit {0}
LoadIs e k (Make p) = Unit {0}
LoadIs e k (Fetch p q f pointer) = e.symbol_sort (symbols.Loaded k) ≡ pointer_sort pointer
LoadIs e k (FetchMarked p q f) = e.symbol_sort (symbols.Loaded k) ≡ sorts.Node
LoadIs e k (Update checked m p s) = Unit {0}
LoadIs e k (Test a b equal) = Unit {0}
LoadIs e k (Differ a b) = Unit {0}
LoadIs e k Skip = Unit {0}

-- what is read by these acts is of the sorts of what it goes into
abbrev pub LoadsAre : Meaning → Execution → List Act → Type 0
LoadsAre e x acts = (j : ℕ) → e.symbol_sort (symbols.Loaded (x.loads + j)) ≡ load_sort (slice_get (loads_of acts) j)

-- the first read, and the others
load_next : (e : Meaning) (x : Execution) (p : Bool) (more : List Act)
    → ((j : ℕ) → e.symbol_sort (symbols.Loaded (x.loads + j)) ≡ load_sort (slice_get (p ∷ loads_of more) j))
    → (e.symbol_sort (symbols.Loaded x.loads) ≡ pointer_sort p)
    × ((j : ℕ) → e.symbol_sort (symbols.Loaded ((x.loads + 1) + j)) ≡ load_sort (slice_get (loads_of more) j))
load_next e x p more h = (
  ap (λ n. e.symbol_sort (symbols.Loaded n)) (let same : x.loads ≡ x.loads + 0 = omega arith in same) ∙ h 0,
  λ j. ap (λ n. e.symbol_sort (symbols.Loaded n))
      (let same : (x.loads + 1) + j ≡ x.loads + suc j = omega arith in same) ∙ h (suc j),
)

-- the first act, and the others
pub load_first : (e : Meaning) (a : Act) (x : Execution) (more : List Act) → LoadsAre e x (a ∷ more)
    → LoadIs e x.loads a × LoadsAre e (after x a) more
load_first e (Assign p s) x more h = (tt, h)
load_first e (Make p) x more h = (tt, h)
load_first e (Fetch p q f pointer) x more h = load_next e x pointer more h
load_first e (FetchMarked p q f) x more h = load_next e x true more h
load_first e (Update checked m p s) x more h = (tt, h)
load_first e (Test a b equal) x more h = (tt, h)
load_first e (Differ a b) x more h = (tt, h)
load_first e Skip x more h = (tt, h)

-- an act is sorted wherever it stands, if what it reads is
abbrev IsSorted : Meaning → Act → Type 0
IsSorted e a = (n : ℕ) → LoadIs e n a → ActIsSorted e n a

module _ (e : Meaning) (file : File) (marked : Bool) (w : Scene) (are : SortsAre e file w.mine w.theirs) (shape : Shape)
    (shaped : ShapeFits shape w.mine) where
  node_sort : (p : Var) → VarIn shape p → e.symbol_sort (pointer_symbol (variables_of false w.mine) p) ≡ sorts.Node
  node_sort p is = (variable w shape shaped p is).sorted e file are

  field_is : (f : FieldId) (pointer : Bool) → FieldIs file pointer f → e.map_sort (maps.Field f) ≡ pointer_sort pointer
  field_is f pointer is = are.maps (maps.Field f) ∙ ap field_sort is.1 ∙ ap pointer_sort is.2

  value_is : (g : ℕ) (vs : List ℕ) (v : ℕ) → v < length vs → ghost_sort g vs ≡ sorts.Value g
  value_is g [] v less = absurd (omega arith)
  value_is g (x ∷ vs) v less = refl

  ghost_is : (g : ℕ) (v : GhostVal) (d : AuxiliaryField) → slice_get file.ghosts g ≡ Some d → ValueFits d v
      → e.map_sort (maps.Ghost g) ≡ e.symbol_sort (ghost_symbol file.ghosts g v)
  ghost_is g (ghost_values.Value v) d at is = are.maps (maps.Ghost g) ∙ ap (auxiliary_sort g) at
      ∙ value_is g d.values v is ∙ sym (are.value (value_number file.ghosts g v)
      ∙ ap value_sort ((values_are_numbered file.ghosts).there g v d at is))
  ghost_is g ghost_values.Me d at is = are.maps (maps.Ghost g) ∙ ap (auxiliary_sort g) at ∙ ap (ghost_sort g) is
      ∙ sym are.me
  ghost_is g ghost_values.None d at is = are.maps (maps.Ghost g) ∙ ap (auxiliary_sort g) at ∙ ap (ghost_sort g) is
      ∙ sym are.nobody

  tests_sorted : (k : ℕ) (r : Rel) (a b : Symbol) → e.symbol_sort a ≡ e.symbol_sort b
      → ActIsSorted e k (data_test r a b)
  tests_sorted k rels.Eq a b h = h
  tests_sorted k rels.Ne a b h = h
  tests_sorted k rels.Lt a b h = tt
  tests_sorted k rels.Ge a b h = tt

  call_sorted : (k : ℕ) (b : Bool) (a : Arg) → ArgIn shape a
      → ActIsSorted e k (call_act (variables_of false w.mine) b a)
  call_sorted k true (args.Var p) is = (node_sort p is, are.maps maps.Retired ∙ sym are.yes)
  call_sorted k true args.Null is = tt
  call_sorted k true args.None is = tt
  call_sorted k false a is = tt

  act_sorted : (n : ℕ) (k : Primitive) → PrimitiveIn shape k → IsWellSorted file k
      → LoadIs e n (act_of file.ghosts (variables_of false w.mine) k)
      → ActIsSorted e n (act_of file.ghosts (variables_of false w.mine) k)
  act_sorted n (Null p) is sorted l = are.null ∙ sym (node_sort p is)
  act_sorted n (Copy p q) is sorted l = node_sort q is.1 ∙ sym (node_sort p is.0)
  act_sorted n (New p) is sorted l = are.new ∙ sym (node_sort p is)
  act_sorted n (Load p q f) is sorted l = (field_is f true sorted ∙ sym l, l ∙ sym (node_sort p is.0))
  act_sorted n (Store p f q) is sorted l = (node_sort p is.0, field_is f true sorted ∙ sym (node_sort q is.2))
  act_sorted n (StoreNull p f) is sorted l = (node_sort p is.0, field_is f true sorted ∙ sym are.null)
  act_sorted n (DataSet x a) is sorted l = (amount w shape shaped a is.1).sorted e file are
      ∙ sym ((local_data w shape shaped x is.0).sorted e file are)
  act_sorted n (DataLoad x q f) is sorted l =
      (field_is f false sorted ∙ sym l, l ∙ sym ((local_data w shape shaped x is.0).sorted e file are))
  act_sorted n (DataStore p f a) is sorted l =
      (node_sort p is.0, field_is f false sorted ∙ sym ((amount w shape shaped a is.2).sorted e file are))
  act_sorted n (Eq p q) is sorted l = node_sort p is.0 ∙ sym (node_sort q is.1)
  act_sorted n (Ne p q) is sorted l = node_sort p is.0 ∙ sym (node_sort q is.1)
  act_sorted n (IsNull p) is sorted l = node_sort p is ∙ sym are.null
  act_sorted n (NotNull p) is sorted l = node_sort p is ∙ sym are.null
  act_sorted n (DataTest r x a) is sorted l = tests_sorted n r _ _
      ((local_data w shape shaped x is.0).sorted e file are ∙ sym ((amount w shape shaped a is.1).sorted e file are))
  act_sorted n (Refresh p q) is sorted l = node_sort q is.1
      ∙ sym ((local_pointer w shape shaped p is.0).sorted e file are)
  act_sorted n (RefreshLoad p q f) is sorted l =
      (field_is f true sorted ∙ sym l, l ∙ sym ((local_pointer w shape shaped p is.0).sorted e file are))
  act_sorted n (RefreshStore p f q) is sorted l = (node_sort p is.0, field_is f true sorted ∙ sym (node_sort q is.2))
  act_sorted n (Mark p q) is sorted l = node_sort q is.1 ∙ sym (node_sort p is.0)
  act_sorted n (Unmark p q) is sorted l = node_sort q is.1 ∙ sym (node_sort p is.0)
  act_sorted n (MarkTest p m) is sorted l = tt
  act_sorted n (Call f a) is sorted l = call_sorted n (is_retire f) a is
  act_sorted n (Done f) is sorted l = tt
  act_sorted n (Active p) is sorted l = tt
  act_sorted n (Ghost p g v) is sorted l = (node_sort p is, ghost_is g v sorted.0 sorted.1 sorted.2)

  -- ---- a program that uses marks

  -- a variable gets a node and a mark
  assign_sorted : (p s m : Symbol) → e.symbol_sort p ≡ sorts.Node → e.symbol_sort s ≡ sorts.Node
      → e.symbol_sort m ≡ sorts.Truth → Each (IsSorted e) (assign_marked p s m)
  assign_sorted p s m pn sn mt = (λ n l. mt ∙ sym (mark_sort are p), (λ n l. sn ∙ sym pn, tt))

  -- a field gets them
  store_sorted : (f : FieldId) (p s m : Symbol) → FieldIs file true f → e.symbol_sort p ≡ sorts.Node
      → e.symbol_sort s ≡ sorts.Node → e.symbol_sort m ≡ sorts.Truth → Each (IsSorted e) (store_marked f p s m)
  store_sorted f p s m is pn sn mt = (
    λ n l. (pn, field_is f true is ∙ sym sn),
    (λ n l. (pn, are.maps (maps.FieldMark f) ∙ sym mt), tt),
  )

  fetch_sorted : (p q : Symbol) (f : FieldId) → FieldIs file true f → e.symbol_sort p ≡ sorts.Node
      → IsSorted e (FetchMarked p q f)
  fetch_sorted p q f is pn n l = (
    (field_is f true is ∙ sym l, l ∙ sym pn),
    (are.maps (maps.FieldMark f) ∙ sym (are.loaded_marks n), are.loaded_marks n ∙ sym (mark_sort are p)),
  )

  truth_sorted : (b : Bool) → e.symbol_sort (truth b) ≡ sorts.Truth
  truth_sorted true = are.yes
  truth_sorted false = are.no

  local_node : (p : ℕ) → p < shape.pointers
      → e.symbol_sort (symbol_at (variables_of false w.mine).pointers p) ≡ sorts.Node
  local_node p is = (local_pointer w shape shaped p is).sorted e file are

  -- the one act that the table has for any program
  one : (k : Primitive) → PrimitiveIn shape k → IsWellSorted file k
      → Each (IsSorted e) (act_of file.ghosts (variables_of false w.mine) k ∷ [])
  one k is sorted = (λ n l. act_sorted n k is sorted l, tt)

  marked_sorted : (k : Primitive) → PrimitiveIn shape k → IsWellSorted file k
      → Each (IsSorted e) (marked_acts file.ghosts (variables_of false w.mine) k)
  marked_sorted (Null p) is sorted = assign_sorted _ _ _ (node_sort p is) are.null are.no
  marked_sorted (Copy p q) is sorted = assign_sorted _ _ _ (node_sort p is.0) (node_sort q is.1) (mark_sort are _)
  marked_sorted (New p) is sorted =
      (λ n l. are.no ∙ sym (mark_sort are _), (λ n l. are.new ∙ sym (node_sort p is), tt))
  marked_sorted (Load p q f) is sorted =
      (fetch_sorted _ (pointer_symbol (variables_of false w.mine) q) f sorted (node_sort p is.0), tt)
  marked_sorted (Store p f q) is sorted =
      store_sorted f _ _ _ sorted (node_sort p is.0) (node_sort q is.2) (mark_sort are _)
  marked_sorted (StoreNull p f) is sorted = store_sorted f _ _ _ sorted (node_sort p is.0) are.null are.no
  marked_sorted (DataSet x a) is sorted = one (DataSet x a) is sorted
  marked_sorted (DataLoad x q f) is sorted = one (DataLoad x q f) is sorted
  marked_sorted (DataStore p f a) is sorted = one (DataStore p f a) is sorted
  marked_sorted (Eq p q) is sorted = (
    λ n l. node_sort p is.0 ∙ sym (node_sort q is.1),
    (λ n l. mark_sort are _ ∙ sym (mark_sort are _), tt),
  )
  marked_sorted (Ne p q) is sorted = (λ n l. tt, tt)
  marked_sorted (IsNull p) is sorted = one (IsNull p) is sorted
  marked_sorted (NotNull p) is sorted = one (NotNull p) is sorted
  marked_sorted (DataTest r x a) is sorted = one (DataTest r x a) is sorted
  marked_sorted (Refresh p q) is sorted =
      assign_sorted _ _ _ (local_node p is.0) (node_sort q is.1) (mark_sort are _)
  marked_sorted (RefreshLoad p q f) is sorted =
      (fetch_sorted _ (pointer_symbol (variables_of false w.mine) q) f sorted (local_node p is.0), tt)
  marked_sorted (RefreshStore p f q) is sorted =
      store_sorted f _ _ _ sorted (node_sort p is.0) (node_sort q is.2) (mark_sort are _)
  marked_sorted (Mark p q) is sorted = assign_sorted _ _ _ (node_sort p is.0) (node_sort q is.1) are.yes
  marked_sorted (Unmark p q) is sorted = assign_sorted _ _ _ (node_sort p is.0) (node_sort q is.1) are.no
  marked_sorted (MarkTest p m) is sorted = (λ n l. mark_sort are _ ∙ sym (truth_sorted m), tt)
  marked_sorted (Call f a) is sorted = one (Call f a) is sorted
  marked_sorted (Done f) is sorted = one (Done f) is sorted
  marked_sorted (Active p) is sorted = one (Active p) is sorted
  marked_sorted (Ghost p g v) is sorted = one (Ghost p g v) is sorted

  -- ---- in order

  primitive_sorted : (b : Bool) (k : Primitive) → PrimitiveIn shape k → IsWellSorted file k
      → Each (IsSorted e) (acts_of_primitive b file.ghosts (variables_of false w.mine) k)
  primitive_sorted true k is sorted = marked_sorted k is sorted
  primitive_sorted false k is sorted = one k is sorted

  all_sorted : (ks : List Primitive) → PrimitivesIn shape ks → AreWellSorted file ks
      → Each (IsSorted e) (acts_of marked file.ghosts (variables_of false w.mine) ks)
  all_sorted [] is sorted = tt
  all_sorted (k ∷ ks) is sorted = each_both (IsSorted e)
      (acts_of_primitive marked file.ghosts (variables_of false w.mine) k)
      (acts_of marked file.ghosts (variables_of false w.mine) ks)
      (primitive_sorted marked k is.0 sorted.0) (all_sorted ks is.1 sorted.1)

  in_order : (acts : List Act) (x : Execution) → Each (IsSorted e) acts → LoadsAre e x acts → AreSorted e x acts
  in_order [] x each h = tt
  in_order (a ∷ more) x each h =
      let f = load_first e a x more h in (each.0 x.loads f.0, in_order more (after x a) each.1 f.1)

  pub acts_sorted : (ks : List Primitive) (x : Execution) → PrimitivesIn shape ks → AreWellSorted file ks
      → LoadsAre e x (acts_of marked file.ghosts (variables_of false w.mine) ks)
      → AreSorted e x (acts_of marked file.ghosts (variables_of false w.mine) ks)
  acts_sorted ks x is sorted h =
      in_order (acts_of marked file.ghosts (variables_of false w.mine) ks) x (all_sorted ks is sorted) h
