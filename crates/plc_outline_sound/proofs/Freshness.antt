-- Nothing led to the new node before, and it holds defaults.
use Rattle.std.proofs.Common.{◌≡◌, ℕ, suc, ◌+◌, ◌<◌, Bool, true, false, ◌==◌, List, [], ◌∷◌, map, length, Some}
use Rattle.std.proofs.Common.{slice_get, refl, sym, ap, ◌∙◌, arith}
use Rattle.std.specs.Prelude.{if◌then◌else◌, flat_map}
use Rattle.std.proofs.lemmas.Bool.{eqb-true, eqb-false}
use Rattle.plc_base.specs.declared.ids.FieldId.{FieldId}
use Rattle.plc_lang.specs.declared.syntax.Field.{Field}
use Rattle.plc_lang.specs.declared.syntax.File.{File}
use Rattle.plc_lang.specs.declared.syntax.Ghost.{Ghost}
use Rattle.plc_lang.specs.WellSorted.{FieldIs}
use Rattle.plc_logic.specs.declared.clause.Sort.TheVariants as sorts
use Rattle.plc_logic.specs.Fit.{pointer_sort, ghost_sort}
use Rattle.plc_ground.specs.declared.terms.Symbol.{Symbol}
use Rattle.plc_ground.specs.declared.terms.Symbol.TheVariants as symbols
use Rattle.plc_ground.specs.declared.terms.Map.{Map}
use Rattle.plc_ground.specs.declared.terms.Map.TheVariants as maps
use Rattle.plc_vocabulary.specs.declared.setting.Setting.{Setting}
use Rattle.plc_vocabulary.specs.Sorts.{field_sort, auxiliary_sort}
use Rattle.plc_encoding.specs.Items.{is_other, default_is, field_default, field_defaults_from, ghost_default}
use Rattle.plc_encoding.specs.Items.{ghost_defaults_from, no_field_leads, unretired, unmarked_field, freshness}
use Rattle.plc_symbolic.specs.declared.symbolic.NodeTerm.{NodeTerm}
use Rattle.plc_symbolic.specs.declared.symbolic.NodeTerm.TheVariants.{At}
use Rattle.plc_symbolic.specs.declared.symbolic.SymbolicTerm.{SymbolicTerm}
use Rattle.plc_symbolic.specs.declared.symbolic.SymbolicTerm.TheVariants.{Constant, Application}
use Rattle.plc_symbolic.specs.Terms.{null, new_node}
use Rattle.plc_gc.specs.State.{GcState, count}
use Rattle.plc_flow.proofs.Each.{Each, each_both, each_so}
use Rattle.plc_oblig.proofs.Lists.{each_flat, each_map, each_all}
use Rattle.plc_outline_sound.proofs.Meaning.{Meaning, node_in, value_in, IsTrueIn, equal_is_true, unequal_is_true}
use Rattle.plc_outline_sound.proofs.Scene.{Scene, gc_map}
use Rattle.plc_outline_sound.proofs.Nodes.{IsBefore, IsBelow, new_is, field_below}
use Rattle.plc_oblig.proofs.ValueSorts.{NumberedFrom, numbered_next, enumerated}
use Rattle.plc_outline_sound.proofs.Enumerated.{only_if_true, value_is}

module _ (e : Meaning) (file : File) (w : Scene) (g : GcState) (limit : ℕ) (before : IsBefore e file w g limit) where
  other_true : (t : SymbolicTerm) → value_in e t < count g → IsTrueIn e (is_other t)
  other_true t small = unequal_is_true e new_node t [] (λ same. let n = new_is e file w g limit before in omega arith)

  null_other : IsTrueIn e (is_other null)
  null_other = other_true null
      (let same = before.means.constants symbols.Null refl refl in let some = before.ranges.null_made in omega arith)

  pointers_other : (ps : List Symbol) → Each (IsBelow e (count g)) ps
      → Each (IsTrueIn e) (map (λ p. is_other (Constant p)) ps)
  pointers_other ps h = each_map (IsTrueIn e) (λ p. is_other (Constant p)) ps
      (each_so (IsBelow e (count g)) (λ p. IsTrueIn e (is_other (Constant p)))
      (λ p b. other_true (Constant p) b.below) ps h)

  fields_other : (fs : List FieldId) → Each (FieldIs file true) fs → (ts : List NodeTerm)
      → Each (IsTrueIn e) (flat_map (no_field_leads fs) ts)
  fields_other fs h ts = each_flat (IsTrueIn e) (no_field_leads fs) ts
      (each_all (λ t. Each (IsTrueIn e) (no_field_leads fs t))
      (λ t. each_map (IsTrueIn e) (λ f. is_other (Application (maps.Field f) 0 t)) fs
      (each_so (FieldIs file true) (λ f. IsTrueIn e (is_other (Application (maps.Field f) 0 t)))
      (λ f is. other_true (Application (maps.Field f) 0 t)
      (field_below e file w g limit before f is (node_in e t)).1) fs h)) ts)

  -- ---- defaults

  -- what a map has at the new node
  new_entry : (m : Map) → e.version m 0 (e.symbol symbols.New) ≡ 0
  new_entry m = before.means.entries m (e.symbol symbols.New)
      ∙ before.ranges.unmade (gc_map g m) (e.symbol symbols.New) (let n = new_is e file w g limit before in omega arith)

  default_true : (m : Map) (s : Symbol) → e.map_sort m ≡ e.symbol_sort s → e.symbol s ≡ 0 → IsTrueIn e (default_is m s)
  default_true m s sorted none = equal_is_true e (Application m 0 (At symbols.New)) (Constant s) []
      (record { sort = sorted; value = new_entry m ∙ sym none })

  field_default_sort : (pointer : Bool) → e.symbol_sort (field_default pointer) ≡ pointer_sort pointer
  field_default_sort true = before.means.sorts_are.null
  field_default_sort false = before.means.sorts_are.number 0

  field_default_none : (pointer : Bool) → e.symbol (field_default pointer) ≡ 0
  field_default_none true = before.means.constants symbols.Null refl refl
  field_default_none false = before.means.constants (symbols.Number 0) refl refl

  fields_true : (k : ℕ) (fs : List Field)
      → ((j : ℕ) (f : Field) → slice_get fs j ≡ Some f → slice_get file.fields (k + j) ≡ Some f)
      → Each (IsTrueIn e) (field_defaults_from k fs)
  fields_true k [] h = tt
  fields_true k (f ∷ fs) h =
      let here = ap (slice_get file.fields) (let same : k ≡ k + 0 = omega arith in same) ∙ h 0 f refl in (
        default_true (maps.Field (record { 0 = k })) (field_default f.pointer)
            (before.means.sorts_are.maps (maps.Field (record { 0 = k })) ∙ ap field_sort here
            ∙ sym (field_default_sort f.pointer)) (field_default_none f.pointer),
        fields_true (k + 1) fs (λ j d at. ap (slice_get file.fields)
            (let same : k + 1 + j ≡ k + suc j = omega arith in same) ∙ h (suc j) d at),
      )

  no_values : (h : ℕ) (vs : List ℕ) → length vs ≡ 0 → ghost_sort h vs ≡ sorts.Thread
  no_values h [] none = refl
  no_values h (v ∷ vs) none = absurd (omega arith)

  ghost_true : (h first : ℕ) (d : Ghost) → slice_get file.ghosts h ≡ Some d → NumberedFrom file.ghosts h first
      → IsTrueIn e (default_is (maps.Ghost h) (ghost_default first (length d.values)))
  ghost_true h first d at from = go (length d.values == 0) refl
    where
      sorted : e.map_sort (maps.Ghost h) ≡ ghost_sort h d.values
      sorted = before.means.sorts_are.maps (maps.Ghost h) ∙ ap (auxiliary_sort h) at

      go : (b : Bool) → (length d.values == 0) ≡ b
          → IsTrueIn e (default_is (maps.Ghost h) (if b then symbols.Nobody else symbols.Value first))
      go true z = default_true (maps.Ghost h) symbols.Nobody
          (sorted ∙ no_values h d.values (eqb-true (length d.values) 0 z) ∙ sym before.means.sorts_are.nobody)
          (before.means.constants symbols.Nobody refl refl)
      go false z =
          let some : 0 < length d.values = (let other = eqb-false (length d.values) 0 z in omega arith) in
          let v = value_is e file w g limit before h first 0 d at from some in
          let same : first + 0 ≡ first = omega arith in
          default_true (maps.Ghost h) (symbols.Value first)
          (sorted ∙ enumerated h d.values some ∙ sym v.sort ∙ ap (λ n. e.symbol_sort (symbols.Value n)) same)
          (ap (λ n. e.symbol (symbols.Value n)) (sym same) ∙ v.value)

  ghosts_true : (h first : ℕ) (hs : List Ghost)
      → ((j : ℕ) (d : Ghost) → slice_get hs j ≡ Some d → slice_get file.ghosts (h + j) ≡ Some d)
      → NumberedFrom file.ghosts h first → Each (IsTrueIn e) (ghost_defaults_from h first hs)
  ghosts_true h first [] at from = tt
  ghosts_true h first (d ∷ hs) at from =
      let here = ap (slice_get file.ghosts) (let same : h ≡ h + 0 = omega arith in same) ∙ at 0 d refl in (
        ghost_true h first d here from,
        ghosts_true (h + 1) (first + length d.values) hs
            (λ j k is. ap (slice_get file.ghosts) (let same : h + 1 + j ≡ h + suc j = omega arith in same)
            ∙ at (suc j) k is) (numbered_next file.ghosts h first d here from),
      )

  unretired_true : Each (IsTrueIn e) unretired
  unretired_true = (
    unequal_is_true e (Application maps.Retired 0 (At symbols.New)) (Constant symbols.Yes) []
        (λ same. let n = new_entry maps.Retired in let y = before.means.constants symbols.Yes refl refl in omega arith),
    tt,
  )

  unmarked_fields_true : (fs : List FieldId) → Each (IsTrueIn e) (map unmarked_field fs)
  unmarked_fields_true fs = each_map (IsTrueIn e) unmarked_field fs (each_all (λ f. IsTrueIn e (unmarked_field f))
      (λ f. default_true (maps.FieldMark f) symbols.No
      (before.means.sorts_are.maps (maps.FieldMark f) ∙ sym (before.means.sorts_are.no))
      (before.means.constants symbols.No refl refl)) fs)

  pub fresh_true : (s : Setting) → Each (IsBelow e (count g)) s.pointers → Each (FieldIs file true) s.fields
      → Each (IsTrueIn e) (freshness file s)
  fresh_true s pointers fields = only_if_true e s.makes _ (
    null_other,
    each_both (IsTrueIn e) (map (λ p. is_other (Constant p)) s.pointers) _ (pointers_other s.pointers pointers)
        (each_both (IsTrueIn e) (flat_map (no_field_leads s.fields) s.nodes) _ (fields_other s.fields fields s.nodes)
        (each_both (IsTrueIn e) (field_defaults_from 0 file.fields) _ (fields_true 0 file.fields
        (λ j f at. ap (slice_get file.fields) (let same : 0 + j ≡ j = omega arith in same) ∙ at))
        (each_both (IsTrueIn e) (ghost_defaults_from 0 0 file.ghosts) _ (ghosts_true 0 0 file.ghosts
        (λ j d at. ap (slice_get file.ghosts) (let same : 0 + j ≡ j = omega arith in same) ∙ at) refl)
        (each_both (IsTrueIn e) unretired _ unretired_true
        (only_if_true e s.marked _ (unmarked_fields_true s.fields)))))),
  )
