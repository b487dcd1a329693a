-- Each primitive is its acts, in the states as ground sets see them.
use Rattle.std.proofs.Common.{◌≡◌, ℕ, suc, ◌<◌, ◌≤◌, Bool, true, false, not, ◌&&◌, ◌==◌, List, [], ◌∷◌, Some}
use Rattle.std.proofs.Common.{slice_get, refl, sym, ap, ap₂, ◌∙◌, arith}
use Rattle.std.specs.Prelude.{if◌then◌else◌}
use Rattle.std.proofs.lemmas.Bool.{and_parts, eq-eqb, eqb-false, not-true}
use Rattle.std.proofs.lemmas.Option.{same_Some}
use Rattle.plc_base.specs.Functions.{is_retire}
use Rattle.plc_base.specs.declared.ids.FieldId.{FieldId}
use Rattle.plc_lang.specs.declared.syntax.Arg.{Arg}
use Rattle.plc_lang.specs.declared.syntax.Arg.TheVariants as args
use Rattle.plc_lang.specs.declared.syntax.File.{File}
use Rattle.plc_lang.specs.declared.syntax.Ghost.{Ghost as AuxiliaryField}
use Rattle.plc_lang.specs.declared.syntax.GhostVal.{GhostVal}
use Rattle.plc_lang.specs.declared.syntax.GhostVal.TheVariants as ghost_values
use Rattle.plc_lang.specs.declared.syntax.Rel.{Rel}
use Rattle.plc_lang.specs.declared.syntax.Rel.TheVariants as rels
use Rattle.plc_lang.specs.declared.syntax.Var.{Var}
use Rattle.plc_lang.specs.declared.syntax.Var.TheVariants as vars
use Rattle.plc_lang.specs.declared.syntax.Primitive.{Primitive}
use Rattle.plc_lang.specs.declared.syntax.Primitive.TheVariants.{Null, Copy, New, Load, Store, StoreNull, DataSet}
use Rattle.plc_lang.specs.declared.syntax.Primitive.TheVariants.{DataLoad, DataStore, Eq, Ne, IsNull, NotNull, DataTest}
use Rattle.plc_lang.specs.declared.syntax.Primitive.TheVariants.{Refresh, RefreshLoad, RefreshStore, Mark, Unmark}
use Rattle.plc_lang.specs.declared.syntax.Primitive.TheVariants.{MarkTest, Call, Done, Active, Ghost}
use Rattle.plc_lang.specs.Allocation.{is_new}
use Rattle.plc_lang.specs.Marks.{speaks_of_marks}
use Rattle.plc_lang.specs.Numbering.{value_number, value_at}
use Rattle.plc_lang.specs.Shape.{Shape, VarIn, ArgIn, PrimitiveIn}
use Rattle.plc_lang.specs.WellSorted.{FieldIs, ValueFits, IsWellSorted}
use Rattle.plc_lang.specs.Comparison.{compares}
use Rattle.plc_lang.proofs.Numbers.{values_are_numbered}
use Rattle.plc_ground.specs.declared.terms.Symbol.{Symbol}
use Rattle.plc_ground.specs.declared.terms.Symbol.TheVariants as symbols
use Rattle.plc_ground.specs.declared.terms.Map.{Map}
use Rattle.plc_ground.specs.declared.terms.Map.TheVariants as maps
use Rattle.plc_vocabulary.specs.declared.acts.Act.{Act}
use Rattle.plc_vocabulary.specs.declared.acts.Act.TheVariants.{Assign, Make, Fetch, FetchMarked, Update, Test}
use Rattle.plc_vocabulary.specs.declared.acts.Act.TheVariants.{Differ, Skip}
use Rattle.plc_vocabulary.specs.Acts.{pointer_symbol, ghost_symbol, data_test, call_act, act_of}
use Rattle.plc_vocabulary.specs.Acts.{mark_of, truth, assign_marked, store_marked, same_marked, marked_acts}
use Rattle.plc_vocabulary.specs.Acts.{acts_of_primitive}
use Rattle.plc_vocabulary.specs.Setting.{variables_of}
use Rattle.plc_logic.specs.declared.clause.Sort.TheVariants as sorts
use Rattle.plc_gc.specs.declared.slot.Slot.{Slot}
use Rattle.plc_gc.specs.declared.slot.Slot.TheVariants.{Data as in_data}
use Rattle.plc_gc.specs.declared.slot.Map.{Map as GcMap}
use Rattle.plc_gc.specs.declared.slot.Map.TheVariants.{Pointer as pointer_field, Number as data_field}
use Rattle.plc_gc.specs.declared.slot.Map.TheVariants.{Auxiliary as auxiliary_field, Retirement as retirement}
use Rattle.plc_gc.specs.declared.slot.Map.TheVariants.{Mark as mark_field}
use Rattle.plc_gc.specs.State.{GcState, entry, count, put, put_pointer, update, update_pointer, made}
use Rattle.plc_gc.specs.State.{slot, mark_slot, number_of}
use Rattle.plc_gc.specs.Clauses.{declared_map}
use Rattle.plc_gc.specs.Primitives.{node_at, mark_at, field_at, field_mark_at, same_pointer, is_marked, ghost_number}
use Rattle.plc_gc.specs.Primitives.{goes_call, goes, after_call, after}
use Rattle.plc_gc.specs.Ranges.{IsInRange}
use Rattle.plc_gc.specs.Unmarked.{AllUnmarked}
use Rattle.plc_gc.proofs.Ranges.{small_at, bit_at}
use Rattle.plc_gc.proofs.Unmarked.{clear_at, unmarked_compared}
use Rattle.plc_ground.proofs.Symbols.{same_symbol_true, same_map_true}
use Rattle.plc_ground.specs.Symbols.{same_symbol, same_map}
use Rattle.plc_outline_sound.proofs.Acts.{View, tests, goes_checked, with_symbol, with_map, changed, act_after, IsNamed}
use Rattle.plc_outline_sound.proofs.Acts.{Acted, ActsRun}
use Rattle.plc_outline_sound.proofs.Scene.{Scene, value_or, symbol_in, gc_map, seen, slot_of, symbol_there}
use Rattle.plc_outline_sound.proofs.Changes.{same_view, put_again, update_again, seen_put, seen_put_pointer, seen_made}
use Rattle.plc_outline_sound.proofs.Changes.{seen_update, seen_update_pointer}
use Rattle.plc_outline_sound.proofs.Variables.{IsVariable, ShapeFits, variable, variable_mark, local_data, amount}

-- the acts run, and lead where the primitive leads
abbrev pub IsRow : Scene → GcState → ℕ → List Act → GcState → Type 0
IsRow w g limit acts h = ActsRun w.node limit (seen w g) acts (seen w h)

-- a state of a run of the file, in which there are at most so many nodes, and no marks where the program uses none
pub record RowFits (file : File) (marked : Bool) (w : Scene) (g : GcState) (limit : ℕ) : Type 0 where
  pub apart : w.owner ≡ w.acting → ⊥
  pub ghosts : w.ghosts ≡ file.ghosts
  pub fields : g.fields ≡ file.fields
  pub ranges : IsInRange g
  pub few : count g ≤ limit
  pub unmarked : marked ≡ false → AllUnmarked g

-- a primitive that puts no pointer anywhere and compares none with another
abbrev is_plain : Primitive → Bool
is_plain (DataSet x e) = true
is_plain (DataLoad x q f) = true
is_plain (DataStore p f e) = true
is_plain (IsNull p) = true
is_plain (NotNull p) = true
is_plain (DataTest r x e) = true
is_plain (Call f a) = true
is_plain (Done f) = true
is_plain (Active p) = true
is_plain (Ghost p h v) = true
is_plain k = false

-- ---- views

-- two maps may be written in either order
swapped : (v : View) (a b : Map) (k n m : ℕ) → (a ≡ b → ⊥)
    → with_map (with_map v a k n) b k m ≡ with_map (with_map v b k m) a k n
unfolding with_map
swapped v a b k n m ne = same_view _ _ (λ s. refl) (λ l i. go l i (same_map l a) (same_map l b) refl refl) refl
  where
    go : (l : Map) (i : ℕ) (x y : Bool) → same_map l a ≡ x → same_map l b ≡ y
        → (if y then changed (λ j. if x then changed (v.map l) k n j else v.map l j) k m i
        else (if x then changed (v.map l) k n i else v.map l i))
        ≡ (if x then changed (λ j. if y then changed (v.map l) k m j else v.map l j) k n i
        else (if y then changed (v.map l) k m i else v.map l i))
    go l i true true e f = absurd (ne (sym (same_map_true l a e) ∙ same_map_true l b f))
    go l i true false e f = refl
    go l i false true e f = refl
    go l i false false e f = refl

-- another constant keeps its value
other_symbol : (v : View) (p : Symbol) (n count : ℕ) (s : Symbol) → (p ≡ s → ⊥)
    → (with_symbol v p n count).symbol s ≡ v.symbol s
unfolding with_symbol
other_symbol v p n count s ne = go (same_symbol p s) refl
  where
    go : (b : Bool) → same_symbol p s ≡ b → (if b then n else v.symbol s) ≡ v.symbol s
    go true same = absurd (ne (same_symbol_true p s same))
    go false same = refl

-- ---- the kinds of act

module _ (file : File) (marked : Bool) (w : Scene) (g : GcState) (limit : ℕ)
    (fits : RowFits file marked w g limit) where
  one : (a : Act) (h : GcState) → Acted w.node limit (seen w g) a → seen w h ≡ act_after (seen w g) a
      → IsRow w g limit (a ∷ []) h
  one a h acted leads = (acted, sym leads)

  skip_row : IsRow w g limit (Skip ∷ []) g
  skip_row = one Skip g (record { went = refl; names = tt; below = tt; makes = tt }) refl

  test_row : (a b : Symbol) (equal : Bool) → IsNamed a → IsNamed b
      → tests equal (symbol_in w g a) (symbol_in w g b) ≡ true → IsRow w g limit (Test a b equal ∷ []) g
  test_row a b equal an bn holds =
      one (Test a b equal) g (record { went = holds; names = (an, bn); below = tt; makes = tt }) refl

  -- ---- data and auxiliary fields

  data_row : (p s : Symbol) (q : Slot) (n : ℕ) → slot_of w p ≡ Some q → IsNamed s → symbol_in w g s ≡ n
      → IsRow w g limit (Assign p s ∷ []) (put g q n)
  data_row p s q n at named is =
      one (Assign p s) (put g q n) (record { went = refl; names = named; below = tt; makes = tt })
      (seen_put w fits.apart g p q n at ∙ ap (λ k. with_symbol (seen w g) p k (count g)) (sym is))

  read_row : (p r : Symbol) (f : FieldId) (q : Slot) (k : ℕ) → slot_of w p ≡ Some q
      → gc_map g (maps.Field f) ≡ data_field f.0 → IsNamed r → symbol_in w g r ≡ k → not (k == 0) ≡ true
      → IsRow w g limit (Fetch p r f false ∷ []) (put g q (entry g (data_field f.0) k))
  read_row p r f q k at is named there some = one (Fetch p r f false) (put g q (entry g (data_field f.0) k))
      (record { went = ap (λ n. not (n == 0)) there ∙ some; names = named; below = tt; makes = tt })
      (seen_put w fits.apart g p q (entry g (data_field f.0) k) at
      ∙ ap (λ n. with_symbol (seen w g) p n (count g)) (ap₂ (entry g) (sym is) (sym there)))

  fetched_below : (f : FieldId) (r : Symbol) → gc_map g (maps.Field f) ≡ pointer_field f.0
      → entry g (gc_map g (maps.Field f)) (symbol_in w g r) < limit
  fetched_below f r is =
      let e = ap (λ l. entry g l (symbol_in w g r)) is in
      let small = fits.ranges.fields f.0 (symbol_in w g r) in
      let few = fits.few in
      omega (arith, e)

  checks : (checked : Bool) (p : Symbol) (k : ℕ) → symbol_in w g p ≡ k → (checked ≡ true → not (k == 0) ≡ true)
      → goes_checked (seen w g) checked p ≡ true
  checks true p k there some = ap (λ n. not (n == 0)) there ∙ some refl
  checks false p k there some = refl

  update_row : (checked : Bool) (m : Map) (p s : Symbol) (l : GcMap) (k n : ℕ) → gc_map g m ≡ l → IsNamed p → IsNamed s
      → symbol_in w g p ≡ k → k < count g → symbol_in w g s ≡ n → (checked ≡ true → not (k == 0) ≡ true)
      → IsRow w g limit (Update checked m p s ∷ []) (update g l k n)
  update_row checked m p s l k n is pn sn there small put some = one (Update checked m p s) (update g l k n)
      (record { went = checks checked p k there some; names = (pn, sn); below = tt; makes = tt })
      (ap (λ l. seen w (update g l k n)) (sym is) ∙ seen_update w fits.apart g m k n small
      ∙ ap₂ (with_map (seen w g) m) (sym there) (sym put))

  -- ---- the table

  field_map_is : (f : FieldId) (pointer : Bool) → FieldIs file pointer f
      → gc_map g (maps.Field f) ≡ (if pointer then pointer_field f.0 else data_field f.0)
  field_map_is f pointer is = ap (λ fs. declared_map f.0 (slice_get fs f.0)) fits.fields ∙ ap (declared_map f.0) is.1
      ∙ ap (λ b. if b then pointer_field f.0 else data_field f.0) is.2

  -- what is put into an auxiliary field
  ghost_value : (h : ℕ) (v : GhostVal) (d : AuxiliaryField) → slice_get file.ghosts h ≡ Some d → ValueFits d v
      → symbol_in w g (ghost_symbol file.ghosts h v) ≡ ghost_number w.acting v
  ghost_value h (ghost_values.Value v) d at is =
      ap (λ gs. value_or (value_number file.ghosts h v) (value_at gs (value_number file.ghosts h v))) fits.ghosts
      ∙ ap (value_or (value_number file.ghosts h v)) ((values_are_numbered file.ghosts).there h v d at is)
  ghost_value h ghost_values.Me d at is = refl
  ghost_value h ghost_values.None d at is = refl

  ghost_named : (h : ℕ) (v : GhostVal) → IsNamed (ghost_symbol file.ghosts h v)
  ghost_named h (ghost_values.Value v) = refl
  ghost_named h ghost_values.Me = refl
  ghost_named h ghost_values.None = refl

  module _ (shape : Shape) (shaped : ShapeFits shape w.mine) where
    -- the constant of a pointer variable, its node and its mark
    abbrev of_var : Var → Symbol
    of_var p = pointer_symbol (variables_of false w.mine) p

    is_var : (p : Var) → VarIn shape p → IsVariable w (of_var p) (slot w.acting p) sorts.Node
    is_var p is = variable w shape shaped p is

    is_mark : (p : Var) → VarIn shape p → IsVariable w (mark_of (of_var p)) (mark_slot w.acting p) sorts.Truth
    is_mark p is = variable_mark w shape shaped p is

    node_of : (p : Var) → VarIn shape p → symbol_in w g (of_var p) ≡ node_at g w.acting p
    node_of p is = symbol_there w g (of_var p) (slot w.acting p) (is_var p is).place

    mark_is : (p : Var) → VarIn shape p → symbol_in w g (mark_of (of_var p)) ≡ mark_at g w.acting p
    mark_is p is = symbol_there w g (mark_of (of_var p)) (mark_slot w.acting p) (is_mark p is).place

    data_tests : (r : Rel) (a b : Symbol) → IsNamed a → IsNamed b
        → compares r (symbol_in w g a) (symbol_in w g b) ≡ true → IsRow w g limit (data_test r a b ∷ []) g
    data_tests rels.Eq a b an bn h = test_row a b true an bn h
    data_tests rels.Ne a b an bn h = test_row a b false an bn h
    data_tests rels.Lt a b an bn h = skip_row
    data_tests rels.Ge a b an bn h = skip_row

    calls : (b : Bool) (a : Arg) → ArgIn shape a → goes_call g w.acting b a ≡ true
        → IsRow w g limit (call_act (variables_of false w.mine) b a ∷ []) (after_call g w.acting b a)
    calls true (args.Var p) is h =
        update_row true maps.Retired (of_var p) symbols.Yes retirement (node_at g w.acting p) 1 refl (is_var p is).named
        refl (node_of p is) (small_at g w.acting p fits.ranges) refl (λ _. h)
    calls true args.Null is h = skip_row
    calls true args.None is h = skip_row
    calls false a is h = skip_row

    plain_row : (k : Primitive) → is_plain k ≡ true → PrimitiveIn shape k → IsWellSorted file k
        → goes g w.acting k ≡ true
        → IsRow w g limit (act_of file.ghosts (variables_of false w.mine) k ∷ []) (after g w.acting k)
    plain_row (DataSet x e) plain is sorted h =
        let n = amount w shape shaped e is.1 in
        data_row _ _ (in_data w.acting x) (number_of g w.acting e) (local_data w shape shaped x is.0).place
        n.named (n.value g)
    plain_row (DataLoad x q f) plain is sorted h =
        read_row _ _ f (in_data w.acting x) (node_at g w.acting q) (local_data w shape shaped x is.0).place
        (field_map_is f false sorted) (is_var q is.1).named (node_of q is.1) h
    plain_row (DataStore p f e) plain is sorted h =
        let n = amount w shape shaped e is.2 in
        update_row true (maps.Field f) _ _ (data_field f.0) (node_at g w.acting p) (number_of g w.acting e)
        (field_map_is f false sorted) (is_var p is.0).named n.named (node_of p is.0) (small_at g w.acting p fits.ranges)
        (n.value g) (λ _. h)
    plain_row (IsNull p) plain is sorted h =
        test_row _ symbols.Null true (is_var p is).named refl (ap (λ n. n == 0) (node_of p is) ∙ h)
    plain_row (NotNull p) plain is sorted h =
        test_row _ symbols.Null false (is_var p is).named refl (ap (λ n. not (n == 0)) (node_of p is) ∙ h)
    plain_row (DataTest r x e) plain is sorted h =
        let n = amount w shape shaped e is.1 in
        let v = local_data w shape shaped x is.0 in
        data_tests r _ _ v.named n.named
        (ap₂ (compares r) (symbol_there w g _ (in_data w.acting x) v.place) (n.value g) ∙ h)
    plain_row (Call f a) plain is sorted h = calls (is_retire f) a is h
    plain_row (Done f) plain is sorted h = skip_row
    plain_row (Active p) plain is sorted h = skip_row
    plain_row (Ghost p i v) plain is sorted h =
        update_row false (maps.Ghost i) _ _ (auxiliary_field i) (node_at g w.acting p) (ghost_number w.acting v) refl
        (is_var p is).named (ghost_named i v) (node_of p is) (small_at g w.acting p fits.ranges)
        (ghost_value i v sorted.0 sorted.1 sorted.2) (λ e. cc)
    plain_row k plain is sorted h = cc

    -- ---- a program that uses no marks: every mark is 0, and stays so

    module _ (clear : AllUnmarked g) where
      no_mark : (p : Var) → VarIn shape p → symbol_in w g (mark_of (of_var p)) ≡ 0
      no_mark p is = mark_is p is ∙ clear_at g w.acting p clear

      -- a pointer that is put into a variable is a node alone
      node_put : (p : Var) (n m : ℕ) → VarIn shape p → m ≡ 0
          → seen w (put_pointer g w.acting p n m) ≡ with_symbol (seen w g) (of_var p) n (count g)
      node_put p n m is none =
          seen_put_pointer w fits.apart g w.acting p (of_var p) n m (is_var p is).place (is_mark p is).place
          ∙ ap (λ u. with_symbol u (of_var p) n (count g))
          (put_again (seen w g) (mark_of (of_var p)) m (no_mark p is ∙ sym none))

      assign_node : (p : Var) (s : Symbol) (n m : ℕ) → VarIn shape p → IsNamed s → symbol_in w g s ≡ n → m ≡ 0
          → IsRow w g limit (Assign (of_var p) s ∷ []) (put_pointer g w.acting p n m)
      assign_node p s n m ip named is none = one (Assign (of_var p) s) (put_pointer g w.acting p n m)
          (record { went = refl; names = named; below = tt; makes = tt })
          (node_put p n m ip none ∙ ap (λ k. with_symbol (seen w g) (of_var p) k (count g)) (sym is))

      make_node : (p : Var) → VarIn shape p → w.node ≡ count g
          → IsRow w g limit (Make (of_var p) ∷ []) (put_pointer (made g) w.acting p (count g) 0)
      make_node p ip node = one (Make (of_var p)) (put_pointer (made g) w.acting p (count g) 0)
          (record { went = refl; names = tt; below = tt; makes = node })
          (seen_made w fits.apart g w.acting p (of_var p) (count g) 0 (is_var p ip).place (is_mark p ip).place
          ∙ ap (λ u. with_symbol u (of_var p) (count g) (suc (count g)))
          (put_again (seen w g) (mark_of (of_var p)) 0 (no_mark p ip)))

      load_node : (p q : Var) (f : FieldId) → VarIn shape p → VarIn shape q → FieldIs file true f
          → not (node_at g w.acting q == 0) ≡ true → IsRow w g limit (Fetch (of_var p) (of_var q) f true ∷ [])
          (put_pointer g w.acting p (field_at g w.acting q f.0) (field_mark_at g w.acting q f.0))
      load_node p q f ip iq sorted some = one (Fetch (of_var p) (of_var q) f true) _
          (record {
            went = ap (λ n. not (n == 0)) (node_of q iq) ∙ some;
            names = (is_var q iq).named;
            below = fetched_below f (of_var q) (field_map_is f true sorted);
            makes = tt;
          })
          (node_put p (field_at g w.acting q f.0) (field_mark_at g w.acting q f.0) ip (clear.fields f.0 _)
          ∙ ap (λ n. with_symbol (seen w g) (of_var p) n (count g))
          (ap₂ (entry g) (sym (field_map_is f true sorted)) (sym (node_of q iq))))

      store_node : (f : FieldId) (p : Var) (s : Symbol) (n m : ℕ) → FieldIs file true f → VarIn shape p → IsNamed s
          → symbol_in w g s ≡ n → not (node_at g w.acting p == 0) ≡ true → m ≡ 0
          → IsRow w g limit (Update true (maps.Field f) (of_var p) s ∷ [])
          (update_pointer g f.0 (node_at g w.acting p) n m)
      store_node f p s n m sorted ip named put some none =
          one (Update true (maps.Field f) (of_var p) s) (update_pointer g f.0 k n m)
          (record {
            went = checks true (of_var p) k (node_of p ip) (λ _. some);
            names = ((is_var p ip).named, named);
            below = tt;
            makes = tt;
          })
          (seen_update_pointer w fits.apart g f k n m (field_map_is f true sorted) (small_at g w.acting p fits.ranges)
          ∙ ap (λ u. with_map u (maps.Field f) k n)
          (update_again (seen w g) (maps.FieldMark f) k m (clear.fields f.0 k ∙ sym none))
          ∙ ap₂ (with_map (seen w g) (maps.Field f)) (sym (node_of p ip)) (sym put))
        where
          k : ℕ
          k = node_at g w.acting p

      copy_node : (p q : Var) → VarIn shape p → VarIn shape q → IsRow w g limit (Assign (of_var p) (of_var q) ∷ [])
          (put_pointer g w.acting p (node_at g w.acting q) (mark_at g w.acting q))
      copy_node p q ip iq =
          assign_node p (of_var q) _ _ ip (is_var q iq).named (node_of q iq) (clear_at g w.acting q clear)

      put_node : (p : Var) (f : FieldId) (q : Var) → VarIn shape p → VarIn shape q → FieldIs file true f
          → not (node_at g w.acting p == 0) ≡ true
          → IsRow w g limit (Update true (maps.Field f) (of_var p) (of_var q) ∷ [])
          (update_pointer g f.0 (node_at g w.acting p) (node_at g w.acting q) (mark_at g w.acting q))
      put_node p f q ip iq sorted some = store_node f p (of_var q) _ _ sorted ip (is_var q iq).named (node_of q iq) some
          (clear_at g w.acting q clear)

      unmarked_row : (k : Primitive) → speaks_of_marks k ≡ false → PrimitiveIn shape k → IsWellSorted file k
          → goes g w.acting k ≡ true → (is_new k ≡ true → w.node ≡ count g)
          → IsRow w g limit (act_of file.ghosts (variables_of false w.mine) k ∷ []) (after g w.acting k)
      unmarked_row (Null p) quiet is sorted h made = assign_node p symbols.Null 0 0 is refl refl refl
      unmarked_row (Copy p q) quiet is sorted h made = copy_node p q is.0 is.1
      unmarked_row (New p) quiet is sorted h made = make_node p is (made refl)
      unmarked_row (Load p q f) quiet is sorted h made = load_node p q f is.0 is.1 sorted h
      unmarked_row (Store p f q) quiet is sorted h made = put_node p f q is.0 is.2 sorted h
      unmarked_row (StoreNull p f) quiet is sorted h made =
          store_node f p symbols.Null 0 0 sorted is.0 refl refl h refl
      unmarked_row (Eq p q) quiet is sorted h made = test_row _ _ true (is_var p is.0).named (is_var q is.1).named
          (ap₂ (λ m n. m == n) (node_of p is.0) (node_of q is.1)
          ∙ sym (unmarked_compared g w.acting p q clear) ∙ h)
      unmarked_row (Ne p q) quiet is sorted h made = test_row _ _ false (is_var p is.0).named (is_var q is.1).named
          (ap₂ (λ m n. not (m == n)) (node_of p is.0) (node_of q is.1)
          ∙ sym (ap not (unmarked_compared g w.acting p q clear)) ∙ h)
      unmarked_row (Refresh p q) quiet is sorted h made = copy_node (vars.Local p) q is.0 is.1
      unmarked_row (RefreshLoad p q f) quiet is sorted h made = load_node (vars.Local p) q f is.0 is.1 sorted h
      unmarked_row (RefreshStore p f q) quiet is sorted h made = put_node p f q is.0 is.2 sorted h
      unmarked_row (Mark p q) quiet is sorted h made = cc
      unmarked_row (Unmark p q) quiet is sorted h made = cc
      unmarked_row (MarkTest p m) quiet is sorted h made = cc
      unmarked_row k quiet is sorted h made = plain_row k refl is sorted h

    -- ---- a program that uses marks: the mark goes with the node

    its_mark : (p : Var) (q : Var) → mark_slot w.acting p ≡ slot w.acting q → ⊥
    its_mark (vars.Shared i) (vars.Shared j) e = cc
    its_mark (vars.Shared i) (vars.Local v) e = cc
    its_mark (vars.Local u) (vars.Shared j) e = cc
    its_mark (vars.Local u) (vars.Local v) e = cc

    -- a mark's constant is none of a node
    mark_apart : (p : Var) → VarIn shape p → (e : Symbol) (q : Var) → slot_of w e ≡ Some (slot w.acting q)
        → mark_of (of_var p) ≡ e → ⊥
    mark_apart p is e q at same = its_mark p q
        (same_Some (mark_slot w.acting p) (slot w.acting q) (sym (is_mark p is).place ∙ ap (slot_of w) same ∙ at))

    mark_not_null : (p : Var) → VarIn shape p → mark_of (of_var p) ≡ symbols.Null → ⊥
    mark_not_null p is same = (let e = sym (is_mark p is).place ∙ ap (slot_of w) same in cc)

    -- the view with this mark and this node for a variable
    abbrev with_both : Symbol → ℕ → ℕ → View
    with_both s m n = with_symbol (with_symbol (seen w g) (mark_of s) m (count g)) s n (count g)

    assign_both : (p : Var) (e m : Symbol) (n k : ℕ) → VarIn shape p → IsNamed e → IsNamed m → symbol_in w g e ≡ n
        → symbol_in w g m ≡ k → (mark_of (of_var p) ≡ e → ⊥)
        → IsRow w g limit (assign_marked (of_var p) e m) (put_pointer g w.acting p n k)
    unfolding with_symbol
    assign_both p e m n k is en mn node mark apart = (
      record { went = refl; names = mn; below = tt; makes = tt },
      (
        record { went = refl; names = en; below = tt; makes = tt },
        ap (with_both (of_var p) (symbol_in w g m))
            (other_symbol (seen w g) (mark_of (of_var p)) (symbol_in w g m) (count g) e apart ∙ node)
            ∙ ap (λ j. with_both (of_var p) j n) mark
            ∙ sym (seen_put_pointer w fits.apart g w.acting p (of_var p) n k (is_var p is).place (is_mark p is).place),
      ),
    )

    make_both : (p : Var) → VarIn shape p → w.node ≡ count g
        → IsRow w g limit (Assign (mark_of (of_var p)) symbols.No ∷ Make (of_var p) ∷ [])
        (put_pointer (made g) w.acting p (count g) 0)
    unfolding with_symbol
    make_both p is node = (
      record { went = refl; names = refl; below = tt; makes = tt },
      (
        record { went = refl; names = tt; below = tt; makes = node },
        sym (seen_made w fits.apart g w.acting p (of_var p) (count g) 0 (is_var p is).place (is_mark p is).place),
      ),
    )

    load_both : (p q : Var) (f : FieldId) → VarIn shape p → VarIn shape q
        → FieldIs file true f → not (node_at g w.acting q == 0) ≡ true
        → IsRow w g limit (FetchMarked (of_var p) (of_var q) f ∷ [])
        (put_pointer g w.acting p (field_at g w.acting q f.0) (field_mark_at g w.acting q f.0))
    load_both p q f ip iq sorted some = one (FetchMarked (of_var p) (of_var q) f) _
        (record {
          went = ap (λ n. not (n == 0)) (node_of q iq) ∙ some;
          names = (is_var q iq).named;
          below = (
            fetched_below f (of_var q) (field_map_is f true sorted),
            (let small = fits.ranges.field_marks f.0 (symbol_in w g (of_var q)) in omega arith),
          );
          makes = tt;
        })
        (seen_put_pointer w fits.apart g w.acting p (of_var p) (field_at g w.acting q f.0)
        (field_mark_at g w.acting q f.0) (is_var p ip).place (is_mark p ip).place
        ∙ ap₂ (with_both (of_var p))
        (ap (entry g (mark_field f.0)) (sym (node_of q iq)))
        (ap₂ (entry g) (sym (field_map_is f true sorted)) (sym (node_of q iq))))

    -- the acts write the node first, the state the mark
    store_both : (f : FieldId) (p : Var) (e m : Symbol) (n j : ℕ) → FieldIs file true f → VarIn shape p → IsNamed e
        → IsNamed m → symbol_in w g e ≡ n → symbol_in w g m ≡ j → not (node_at g w.acting p == 0) ≡ true
        → IsRow w g limit (store_marked f (of_var p) e m) (update_pointer g f.0 (node_at g w.acting p) n j)
    unfolding with_map
    store_both f p e m n j sorted ip en mn node mark some = (
      record {
        went = ap (λ n. not (n == 0)) (node_of p ip) ∙ some;
        names = ((is_var p ip).named, en);
        below = tt;
        makes = tt;
      },
      (
        record { went = refl; names = ((is_var p ip).named, mn); below = tt; makes = tt },
        ap₂ (λ k i. with_map (with_map (seen w g) (maps.Field f) k i) (maps.FieldMark f) k (symbol_in w g m))
            (node_of p ip) node
            ∙ ap (with_map (with_map (seen w g) (maps.Field f) k n) (maps.FieldMark f) k) mark
            ∙ swapped (seen w g) (maps.Field f) (maps.FieldMark f) k n j (λ same. cc)
            ∙ sym (seen_update_pointer w fits.apart g f k n j (field_map_is f true sorted)
            (small_at g w.acting p fits.ranges)),
      ),
    )
      where
        k : ℕ
        k = node_at g w.acting p

    copy_both : (p q : Var) → VarIn shape p → VarIn shape q
        → IsRow w g limit (assign_marked (of_var p) (of_var q) (mark_of (of_var q)))
        (put_pointer g w.acting p (node_at g w.acting q) (mark_at g w.acting q))
    copy_both p q ip iq = assign_both p (of_var q) (mark_of (of_var q)) _ _ ip (is_var q iq).named (is_mark q iq).named
        (node_of q iq) (mark_is q iq) (mark_apart p ip (of_var q) q (is_var q iq).place)

    put_both : (p : Var) (f : FieldId) (q : Var) → VarIn shape p → VarIn shape q → FieldIs file true f
        → not (node_at g w.acting p == 0) ≡ true
        → IsRow w g limit (store_marked f (of_var p) (of_var q) (mark_of (of_var q)))
        (update_pointer g f.0 (node_at g w.acting p) (node_at g w.acting q) (mark_at g w.acting q))
    put_both p f q ip iq sorted some = store_both f p (of_var q) (mark_of (of_var q)) _ _ sorted ip (is_var q iq).named
        (is_mark q iq).named (node_of q iq) (mark_is q iq) some

    turned : (p q : Var) (s : Symbol) (b : ℕ) → VarIn shape p → VarIn shape q → IsNamed s → symbol_in w g s ≡ b
        → IsRow w g limit (assign_marked (of_var p) (of_var q) s) (put_pointer g w.acting p (node_at g w.acting q) b)
    turned p q s b ip iq named is = assign_both p (of_var q) s _ b ip (is_var q iq).named named (node_of q iq) is
        (mark_apart p ip (of_var q) q (is_var q iq).place)

    same_both : (p q : Var) → VarIn shape p → VarIn shape q → same_pointer g w.acting p q ≡ true
        → IsRow w g limit (same_marked (of_var p) (of_var q)) g
    same_both p q ip iq h =
        let both = and_parts (node_at g w.acting p == node_at g w.acting q)
        (mark_at g w.acting p == mark_at g w.acting q) h in (
          record {
            went = ap₂ (λ m n. m == n) (node_of p ip) (node_of q iq) ∙ both.0;
            names = ((is_var p ip).named, (is_var q iq).named);
            below = tt;
            makes = tt;
          },
          (
            record {
              went = ap₂ (λ m n. m == n) (mark_is p ip) (mark_is q iq) ∙ both.1;
              names = ((is_mark p ip).named, (is_mark q iq).named);
              below = tt;
              makes = tt;
            },
            refl,
          ),
        )

    differ_row : (p q : Var) → VarIn shape p → VarIn shape q → not (same_pointer g w.acting p q) ≡ true
        → IsRow w g limit (Differ (of_var p) (of_var q) ∷ []) g
    differ_row p q ip iq h = one (Differ (of_var p) (of_var q)) g
        (record {
          went = ap not (ap₂ (λ a b. a && b) (ap₂ (λ m n. m == n) (node_of p ip) (node_of q iq))
              (ap₂ (λ m n. m == n) (mark_is p ip) (mark_is q iq))) ∙ h;
          names = (((is_var p ip).named, (is_var q iq).named), ((is_mark p ip).named, (is_mark q iq).named));
          below = tt;
          makes = tt;
        }) refl

    truth_named : (m : Bool) → IsNamed (truth m)
    truth_named true = refl
    truth_named false = refl

    mark_test : (p : Var) (m : Bool) → VarIn shape p
        → (if m then is_marked g w.acting p else not (is_marked g w.acting p)) ≡ true
        → (symbol_in w g (mark_of (of_var p)) == symbol_in w g (truth m)) ≡ true
    mark_test p true is h = ap (λ n. n == 1) (mark_is p is) ∙ h
    mark_test p false is h =
        let small = bit_at g w.acting p fits.ranges in
        let other = eqb-false (mark_at g w.acting p) 1 (not-true (is_marked g w.acting p) h) in
        ap (λ n. n == 0) (mark_is p is) ∙ eq-eqb (mark_at g w.acting p) 0 (omega arith)

    marked_row : (k : Primitive) → PrimitiveIn shape k → IsWellSorted file k
        → goes g w.acting k ≡ true → (is_new k ≡ true → w.node ≡ count g)
        → IsRow w g limit (marked_acts file.ghosts (variables_of false w.mine) k) (after g w.acting k)
    marked_row (Null p) is sorted h made =
        assign_both p symbols.Null symbols.No 0 0 is refl refl refl refl (mark_not_null p is)
    marked_row (Copy p q) is sorted h made = copy_both p q is.0 is.1
    marked_row (New p) is sorted h made = make_both p is (made refl)
    marked_row (Load p q f) is sorted h made = load_both p q f is.0 is.1 sorted h
    marked_row (Store p f q) is sorted h made = put_both p f q is.0 is.2 sorted h
    marked_row (StoreNull p f) is sorted h made =
        store_both f p symbols.Null symbols.No 0 0 sorted is.0 refl refl refl refl h
    marked_row (Eq p q) is sorted h made = same_both p q is.0 is.1 h
    marked_row (Ne p q) is sorted h made = differ_row p q is.0 is.1 h
    marked_row (Refresh p q) is sorted h made = copy_both (vars.Local p) q is.0 is.1
    marked_row (RefreshLoad p q f) is sorted h made = load_both (vars.Local p) q f is.0 is.1 sorted h
    marked_row (RefreshStore p f q) is sorted h made = put_both p f q is.0 is.2 sorted h
    marked_row (Mark p q) is sorted h made = turned p q symbols.Yes 1 is.0 is.1 refl refl
    marked_row (Unmark p q) is sorted h made = turned p q symbols.No 0 is.0 is.1 refl refl
    marked_row (MarkTest p m) is sorted h made =
        test_row _ (truth m) true (is_mark p is).named (truth_named m) (mark_test p m is h)
    marked_row k is sorted h made = plain_row k refl is sorted h

    pub row : (k : Primitive) → (marked ≡ false → speaks_of_marks k ≡ false) → PrimitiveIn shape k
        → IsWellSorted file k → goes g w.acting k ≡ true → (is_new k ≡ true → w.node ≡ count g)
        → IsRow w g limit (acts_of_primitive marked file.ghosts (variables_of false w.mine) k) (after g w.acting k)
    row k quiet is sorted h made = go marked refl
      where
        go : (b : Bool) → marked ≡ b
            → IsRow w g limit (acts_of_primitive b file.ghosts (variables_of false w.mine) k) (after g w.acting k)
        go true e = marked_row k is sorted h made
        go false e = unmarked_row (fits.unmarked e) k (quiet e) is sorted h made
