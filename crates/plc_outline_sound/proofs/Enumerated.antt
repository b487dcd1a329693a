-- Each node has one of the values of each enumerated auxiliary field, and each mark is set or isn't.
use Rattle.std.proofs.Common.{◌≡◌, ℕ, zero, suc, ◌+◌, ◌<◌, Bool, true, false, ◌&&◌, ◌==◌, List, [], ◌∷◌, ◌++◌, map}
use Rattle.std.proofs.Common.{length, Option, Some, None, slice_get, refl, sym, ap, ◌∙◌, subst, arith, inl, inr}
use Rattle.std.specs.Prelude.{if◌then◌else◌, flat_map}
use Rattle.std.specs.List.{range_with_len}
use Rattle.std.proofs.lemmas.Bool.{eqb-false}
use Rattle.plc_lang.specs.declared.syntax.File.{File}
use Rattle.plc_lang.specs.declared.syntax.Ghost.{Ghost}
use Rattle.plc_lang.specs.declared.syntax.Local.{Local}
use Rattle.plc_lang.specs.Numbering.{value_number, value_at, pointer_number}
use Rattle.plc_lang.proofs.Numbers.{values_are_numbered}
use Rattle.plc_logic.specs.declared.clause.Sort.TheVariants as sorts
use Rattle.plc_ground.specs.declared.terms.Symbol.{Symbol}
use Rattle.plc_ground.specs.declared.terms.Symbol.TheVariants as symbols
use Rattle.plc_ground.specs.declared.terms.Map.TheVariants as maps
use Rattle.plc_base.specs.declared.ids.FieldId.{FieldId}
use Rattle.plc_vocabulary.specs.declared.acts.Act.{Act}
use Rattle.plc_vocabulary.specs.declared.acts.Act.TheVariants.{Assign, Make, Fetch, FetchMarked, Update, Test}
use Rattle.plc_vocabulary.specs.declared.acts.Act.TheVariants.{Differ, Skip}
use Rattle.plc_vocabulary.specs.declared.setting.Setting.{Setting}
use Rattle.plc_vocabulary.specs.Acts.{mark_of}
use Rattle.plc_vocabulary.specs.Setting.{only_if, mark_constants}
use Rattle.plc_vocabulary.specs.Sorts.{auxiliary_sort, value_sort}
use Rattle.plc_encoding.specs.declared.execution.Execution.{Execution}
use Rattle.plc_encoding.specs.Execution.{after}
use Rattle.plc_encoding.specs.Items.{one_of_values, field_values, values_from, set_or_not, field_marks}
use Rattle.plc_encoding.specs.Items.{mark_values}
use Rattle.plc_symbolic.specs.declared.symbolic.NodeTerm.{NodeTerm}
use Rattle.plc_symbolic.specs.declared.symbolic.SymbolicTerm.TheVariants.{Constant, Application}
use Rattle.plc_symbolic.specs.declared.symbolic.SymbolicTerm.{SymbolicTerm}
use Rattle.plc_symbolic.specs.declared.symbolic.SymbolicLit.{SymbolicLit}
use Rattle.plc_symbolic.specs.Terms.{Clauses, is}
use Rattle.plc_gc.specs.declared.slot.Slot.TheVariants.{LocalMark as local_mark}
use Rattle.plc_gc.specs.declared.slot.Map.TheVariants.{Auxiliary as auxiliary_field}
use Rattle.plc_gc.specs.State.{GcState, value, entry}
use Rattle.plc_gc.specs.Clauses.{declared_mark}
use Rattle.plc_gc.specs.Ranges.{ValuesAreInRange}
use Rattle.plc_flow.proofs.Each.{Each, each_both}
use Rattle.plc_oblig.proofs.Lists.{each_flat, each_map, each_all}
use Rattle.plc_oblig.proofs.ValueSorts.{NumberedFrom, numbered_next, enumerated}
use Rattle.plc_outline_sound.proofs.Acts.{View, act_after, mark_fetched, Acted, ActsRun}
use Rattle.plc_outline_sound.proofs.Fetches.{is_fetch}
use Rattle.plc_outline_sound.proofs.Meaning.{Meaning, node_in, value_in, sort_in, IsTrueIn, equal_is_true, later_is_true}
use Rattle.plc_outline_sound.proofs.Future.{load_at}
use Rattle.plc_outline_sound.proofs.Scene.{Scene, value_or}
use Rattle.plc_outline_sound.proofs.Nodes.{IsBefore}
use Rattle.plc_outline_sound.proofs.Variables.{mark_sort}

-- what only programs with marks say
pub only_if_true : (e : Meaning) (b : Bool) (cs : Clauses) → Each (IsTrueIn e) cs → Each (IsTrueIn e) (only_if b cs)
only_if_true e true cs h = h
only_if_true e false cs h = tt

-- one of a range of equations is true
some_of_range : (e : Meaning) (l : ℕ → SymbolicLit) (first n a : ℕ) → a < n
    → ((k : ℕ) → k ≡ first + a → IsTrueIn e (l k ∷ [])) → IsTrueIn e (map l (range_with_len first n))
some_of_range e l first zero a less h = absurd (omega arith)
some_of_range e l first (suc n) zero less h = elim (h first (omega arith)) [ inl t ↦ inl t | inr t ↦ absurd t ]
some_of_range e l first (suc n) (suc a) less h = inr
    (some_of_range e l (first + 1) n a (omega arith) (λ k same. h k (omega arith)))

module _ (e : Meaning) (file : File) (w : Scene) (g : GcState) (limit : ℕ) (before : IsBefore e file w g limit) where
  -- the constant of a value
  pub record IsValue (h a number : ℕ) : Type 0 where
    pub value : e.symbol (symbols.Value number) ≡ a
    pub sort : e.symbol_sort (symbols.Value number) ≡ sorts.Value h

  pub value_is : (h first a : ℕ) (d : Ghost) → slice_get file.ghosts h ≡ Some d → NumberedFrom file.ghosts h first
      → a < length d.values → IsValue h a (first + a)
  value_is h first a d at from less =
      let same : value_number file.ghosts h a ≡ first + a = omega (arith, from) in
      let there = (values_are_numbered file.ghosts).there h a d at less in
      subst (IsValue h a) same (record {
        value = before.means.constants (symbols.Value (value_number file.ghosts h a)) refl refl
            ∙ ap (λ gs. value_or (value_number file.ghosts h a)
            (value_at gs (value_number file.ghosts h a))) before.means.ghosts
            ∙ ap (value_or (value_number file.ghosts h a)) there;
        sort = before.means.sorts_are.value (value_number file.ghosts h a) ∙ ap value_sort there;
      })

  module _ (values : ValuesAreInRange file g) where
    one_true : (h first : ℕ) (d : Ghost) → slice_get file.ghosts h ≡ Some d → NumberedFrom file.ghosts h first
        → 0 < length d.values → (t : NodeTerm) → IsTrueIn e (one_of_values h first (length d.values) t)
    one_true h first d at from some t =
        some_of_range e (λ v. is (Application (maps.Ghost h) 0 t) (Constant (symbols.Value v))) first (length d.values)
        (entry g (auxiliary_field h) (node_in e t)) (values h d at some (node_in e t)) (λ k same.
        let n = entry g (auxiliary_field h) (node_in e t) in
        let v = value_is h first n d at from (values h d at some (node_in e t)) in
        equal_is_true e (Application (maps.Ghost h) 0 t) (Constant (symbols.Value k)) [] (record {
          sort = before.means.sorts_are.maps (maps.Ghost h) ∙ ap (auxiliary_sort h) at ∙ enumerated h d.values some
              ∙ sym v.sort ∙ ap (λ k. e.symbol_sort (symbols.Value k)) (sym same);
          value = before.means.entries (maps.Ghost h) (node_in e t) ∙ sym v.value
              ∙ ap (λ k. e.symbol (symbols.Value k)) (sym same);
        }))

    field_true : (h first : ℕ) (d : Ghost) → slice_get file.ghosts h ≡ Some d → NumberedFrom file.ghosts h first
        → (ts : List NodeTerm) → Each (IsTrueIn e) (field_values h first (length d.values) ts)
    field_true h first d at from ts = go (length d.values == 0) refl
      where
        go : (b : Bool) → (length d.values == 0) ≡ b
            → Each (IsTrueIn e) (if b then [] else map (one_of_values h first (length d.values)) ts)
        go true z = tt
        go false z = each_map (IsTrueIn e) (one_of_values h first (length d.values)) ts
            (each_all (λ t. IsTrueIn e (one_of_values h first (length d.values) t))
            (one_true h first d at from (let other = eqb-false (length d.values) 0 z in omega arith)) ts)

    values_true : (h first : ℕ) (hs : List Ghost)
        → ((j : ℕ) (d : Ghost) → slice_get hs j ≡ Some d → slice_get file.ghosts (h + j) ≡ Some d)
        → NumberedFrom file.ghosts h first → (ts : List NodeTerm) → Each (IsTrueIn e) (values_from h first hs ts)
    values_true h first [] at from ts = tt
    values_true h first (d ∷ hs) at from ts =
        let here = ap (slice_get file.ghosts) (let same : h ≡ h + 0 = omega arith in same) ∙ at 0 d refl in
        each_both (IsTrueIn e) (field_values h first (length d.values) ts)
        (values_from (h + 1) (first + length d.values) hs ts)
        (field_true h first d here from ts)
        (values_true (h + 1) (first + length d.values) hs
        (λ j k is. ap (slice_get file.ghosts) (let same : h + 1 + j ≡ h + suc j = omega arith in same)
        ∙ at (suc j) k is) (numbered_next file.ghosts h first d here from) ts)

    pub all_values_true : (ts : List NodeTerm) → Each (IsTrueIn e) (values_from 0 0 file.ghosts ts)
    all_values_true ts = values_true 0 0 file.ghosts
        (λ j d at. ap (slice_get file.ghosts) (let same : 0 + j ≡ j = omega arith in same) ∙ at) refl ts

  -- ---- marks

  -- a mark that is 0 or 1 is one of the two
  bit_true : (m : SymbolicTerm) → sort_in e m ≡ sorts.Truth → value_in e m < 2 → IsTrueIn e (set_or_not m)
  bit_true m sort small = go (value_in e m) refl
    where
      yes_is : e.symbol symbols.Yes ≡ 1
      yes_is = before.means.constants symbols.Yes refl refl

      no_is : e.symbol symbols.No ≡ 0
      no_is = before.means.constants symbols.No refl refl

      go : (n : ℕ) → value_in e m ≡ n → IsTrueIn e (set_or_not m)
      go zero none = later_is_true e (is m (Constant symbols.Yes)) (is m (Constant symbols.No) ∷ [])
          (equal_is_true e m (Constant symbols.No) [] (record {
            sort = sort ∙ sym (before.means.sorts_are.no);
            value = none ∙ sym no_is;
          }))
      go (suc n) some = equal_is_true e m (Constant symbols.Yes) (is m (Constant symbols.No) ∷ []) (record {
        sort = sort ∙ sym before.means.sorts_are.yes;
        value = (let y = yes_is in omega arith);
      })

  declared_small : (t : ℕ) (ls : List Local) (k : ℕ) (o : Option Local) → declared_mark g t ls k o < 2
  declared_small t ls k None = omega arith
  declared_small t ls k (Some l) = go l.pointer
    where
      go : (b : Bool) → (if b then value g (local_mark t (pointer_number ls k)) else 0) < 2
      go true = (let small = before.ranges.local_marks t (pointer_number ls k) in omega arith)
      go false = omega arith

  module _ (reads : (r : ℕ) → e.symbol (symbols.MarkLoaded r) < 2) where
    no_small : e.symbol symbols.No < 2
    no_small = (let n = before.means.constants symbols.No refl refl in omega arith)

    mark_small : (p : Symbol) → e.symbol (mark_of p) < 2
    mark_small (symbols.Shared i) =
        let same = before.means.now.value (symbols.MarkShared i) refl in
        let small = before.ranges.shared_marks i in
        omega arith
    mark_small (symbols.Mine k) =
        let same = before.means.now.value (symbols.MarkMine k) refl in
        let small = declared_small w.acting w.mine k (slice_get w.mine k) in
        omega arith
    mark_small (symbols.Theirs k) =
        let same = before.means.now.value (symbols.MarkTheirs k) refl in
        let small = declared_small w.owner w.theirs k (slice_get w.theirs k) in
        omega arith
    mark_small (symbols.Loaded r) = reads r
    mark_small _ = no_small

    constants_true : (marked : Bool) (ps loads : List Symbol)
        → Each (IsTrueIn e) (map (λ m. set_or_not (Constant m)) (mark_constants marked ps loads))
    constants_true false ps loads = tt
    constants_true true ps loads =
        each_map (IsTrueIn e) (λ m. set_or_not (Constant m)) (map mark_of (ps ++ loads))
        (each_map (λ m. IsTrueIn e (set_or_not (Constant m))) mark_of (ps ++ loads)
        (each_all (λ p. IsTrueIn e (set_or_not (Constant (mark_of p))))
        (λ p. bit_true (Constant (mark_of p)) (mark_sort before.means.sorts_are p) (mark_small p)) (ps ++ loads)))

    fields_true : (ts : List NodeTerm) (fs : List FieldId) → Each (IsTrueIn e) (flat_map (field_marks ts) fs)
    fields_true ts fs = each_flat (IsTrueIn e) (field_marks ts) fs (each_all (λ f. Each (IsTrueIn e) (field_marks ts f))
        (λ f. each_map (IsTrueIn e) (λ t. set_or_not (Application (maps.FieldMark f) 0 t)) ts
        (each_all (λ t. IsTrueIn e (set_or_not (Application (maps.FieldMark f) 0 t)))
        (λ t. bit_true (Application (maps.FieldMark f) 0 t) (before.means.sorts_are.maps (maps.FieldMark f))
        (let same = before.means.entries (maps.FieldMark f) (node_in e t) in
        let small = before.ranges.field_marks f.0 (node_in e t) in
        omega arith)) ts)) fs)

    pub marks_true : (s : Setting) (ps loads : List Symbol) → s.marks ≡ mark_constants s.marked ps loads
        → Each (IsTrueIn e) (mark_values s)
    marks_true s ps loads same = only_if_true e s.marked _
        (each_both (IsTrueIn e) (map (λ m. set_or_not (Constant m)) s.marks) _
        (subst (λ ms. Each (IsTrueIn e) (map (λ m. set_or_not (Constant m)) ms)) (sym same)
        (constants_true s.marked ps loads))
        (fields_true s.nodes s.fields))

-- ---- marks that are read

fetched_small : (node limit : ℕ) (v : View) (a : Act) → Acted node limit v a → mark_fetched v a < 2
fetched_small node limit v (Assign p s) acted = omega arith
fetched_small node limit v (Make p) acted = omega arith
fetched_small node limit v (Fetch p q f pointer) acted = omega arith
fetched_small node limit v (FetchMarked p q f) acted = acted.below.1
fetched_small node limit v (Update checked m p s) acted = omega arith
fetched_small node limit v (Test a b equal) acted = omega arith
fetched_small node limit v (Differ a b) acted = omega arith
fetched_small node limit v Skip acted = omega arith

either : (b : Bool) (m n : ℕ) → m < 2 → n < 2 → (if b then m else n) < 2
either true m n small other = small
either false m n small other = other

pub reads_small : (node limit : ℕ) (x : Execution) (v u : View) (acts : List Act) → ActsRun node limit v acts u
    → (j : ℕ) → load_at mark_fetched x v acts j < 2
reads_small node limit x v u [] run j = omega arith
reads_small node limit x v u (a ∷ more) run j =
    either (is_fetch a && (x.loads == j)) (mark_fetched v a) (load_at mark_fetched (after x a) (act_after v a) more j)
    (fetched_small node limit v a run.0) (reads_small node limit (after x a) (act_after v a) u more run.1 j)
