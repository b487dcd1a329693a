-- Where the file or an operation begins, variables are null, unmarked and 0.
use Rattle.std.proofs.Common.{◌≡◌, ℕ, ◌<◌, Bool, true, false, not, List, [], map, length, Some, slice_get}
use Rattle.std.proofs.Common.{refl, sym, ap, ◌∙◌, subst, arith, inl, inr, ◌⊎◌}
use Rattle.std.specs.Prelude.{if◌then◌else◌}
use Rattle.std.proofs.lemmas.Bool.{and_parts, not-true}
use Rattle.plc_lang.specs.declared.syntax.File.{File}
use Rattle.plc_lang.specs.declared.syntax.Local.{Local}
use Rattle.plc_lang.specs.Locals.{is_pointer, is_other_data}
use Rattle.plc_lang.specs.Numbering.{places_from, pointer_number, data_number}
use Rattle.plc_logic.specs.declared.clause.Sort.TheVariants as sorts
use Rattle.plc_logic.specs.Fit.{pointer_sort}
use Rattle.plc_ground.specs.declared.terms.Symbol.{Symbol}
use Rattle.plc_ground.specs.declared.terms.Symbol.TheVariants as symbols
use Rattle.plc_flow.specs.declared.flow.Flow.{Flow}
use Rattle.plc_vocabulary.specs.declared.obligations.Obligation.{Obligation}
use Rattle.plc_vocabulary.specs.declared.obligations.Obligation.TheVariants.{Start, Enter, Own, Other, Claim}
use Rattle.plc_vocabulary.specs.declared.setting.Setting.{Setting}
use Rattle.plc_vocabulary.specs.declared.setting.Variables.{Variables}
use Rattle.plc_vocabulary.specs.Acts.{mark_of}
use Rattle.plc_vocabulary.specs.Parts.{acting_locals}
use Rattle.plc_vocabulary.specs.Setting.{below, local_symbol, variables_of}
use Rattle.plc_vocabulary.specs.Sorts.{local_sort}
use Rattle.plc_encoding.specs.Items.{equals, unmarked, only_new, start_clauses, enter_clauses, beginning}
use Rattle.plc_symbolic.specs.declared.symbolic.SymbolicTerm.TheVariants.{Constant}
use Rattle.plc_symbolic.specs.declared.symbolic.SymbolicLit.{SymbolicLit}
use Rattle.plc_gc.specs.declared.slot.Slot.TheVariants.{Shared as in_shared, Local as in_local, Data as in_data}
use Rattle.plc_gc.specs.declared.slot.Slot.TheVariants.{SharedMark as shared_mark, LocalMark as local_mark}
use Rattle.plc_gc.specs.State.{GcState, value, count}
use Rattle.plc_gc.specs.Clauses.{declared_value, declared_mark}
use Rattle.plc_flow.proofs.Each.{Each, each_both, each_so}
use Rattle.plc_oblig.proofs.Lists.{each_map, each_all, each_from}
use Rattle.plc_outline_sound.proofs.Meaning.{Meaning, IsTrueIn, equal_is_true}
use Rattle.plc_outline_sound.proofs.Scene.{Scene, symbol_in}
use Rattle.plc_outline_sound.proofs.Variables.{mark_sort}
use Rattle.plc_outline_sound.proofs.Enumerated.{only_if_true}
use Rattle.plc_outline_sound.proofs.Nodes.{IsBefore, IsPlace, each_place_of, new_is}

-- what is known of the first state of an obligation
abbrev pub BeginsAs : Scene → GcState → Obligation → Type 0
BeginsAs w g (Start i) =
    ((j : ℕ) → value g (in_shared j) ≡ 0) × ((j : ℕ) → value g (shared_mark j) ≡ 0) × (count g ≡ 1)
BeginsAs w g (Enter o c) =
    ((v : ℕ) → value g (in_local w.acting v) ≡ 0) × ((v : ℕ) → value g (local_mark w.acting v) ≡ 0)
    × ((k : ℕ) (l : Local) → slice_get w.mine k ≡ Some l → is_other_data l ≡ true
    → value g (in_data w.acting (data_number w.mine k)) ≡ 0)
BeginsAs w g (Own k c) = Unit {0}
BeginsAs w g (Other k p c) = Unit {0}
BeginsAs w g (Claim k j) = Unit {0}

module _ (e : Meaning) (file : File) (w : Scene) (g : GcState) (limit : ℕ) (before : IsBefore e file w g limit) where
  null_true : (s : Symbol) → e.symbol_sort s ≡ sorts.Node → e.symbol s ≡ 0 → IsTrueIn e (equals s symbols.Null)
  null_true s sorted none = equal_is_true e (Constant s) (Constant symbols.Null) [] (record {
    sort = sorted ∙ sym before.means.sorts_are.null;
    value = none ∙ sym (before.means.constants symbols.Null refl refl);
  })

  unmarked_true : (p : Symbol) → symbol_in w g (mark_of p) ≡ 0 → e.symbol (mark_of p) ≡ symbol_in w g (mark_of p)
      → IsTrueIn e (unmarked p)
  unmarked_true p none is = equal_is_true e (Constant (mark_of p)) (Constant symbols.No) [] (record {
    sort = mark_sort before.means.sorts_are p ∙ sym (before.means.sorts_are.no);
    value = is ∙ none ∙ sym (before.means.constants symbols.No refl refl);
  })

  -- ---- the file

  only_true : (makes : Bool) → count g ≡ 1 → (i : ℕ) → 0 < w.bound i
      → (w.bound i < count g) ⊎ ((makes ≡ true) × (w.bound i ≡ count g)) → IsTrueIn e (only_new makes (symbols.Bound i))
  only_true makes one i some (inl old) = absurd (omega arith)
  only_true makes one i some (inr made) = subst (λ b. IsTrueIn e (only_new b (symbols.Bound i))) (sym made.0)
      (equal_is_true e (Constant (symbols.Bound i)) (Constant symbols.New) [] (record {
        sort = before.means.sorts_are.bound i ∙ sym before.means.sorts_are.new;
        value = before.means.constants (symbols.Bound i) refl refl ∙ made.1 ∙ sym (new_is e file w g limit before);
      }))

  start_true : (shared : ℕ) (s : Setting) → BeginsAs w g (Start 0)
      → ((i : ℕ) → i < s.bound → (0 < w.bound i) × (w.bound i < limit))
      → ((n : ℕ) → n < limit → (n < count g) ⊎ ((s.makes ≡ true) × (n ≡ count g)))
      → Each (IsTrueIn e) (start_clauses shared s)
  start_true shared s h bs old_or_new =
      each_both (IsTrueIn e) (map (λ i. equals (symbols.Shared i) symbols.Null) (below shared)) _
      (each_map (IsTrueIn e) (λ i. equals (symbols.Shared i) symbols.Null) (below shared)
      (each_all (λ i. IsTrueIn e (equals (symbols.Shared i) symbols.Null))
      (λ i. null_true (symbols.Shared i) (before.means.sorts_are.shared i)
      (before.means.now.value (symbols.Shared i) refl ∙ h.0 i)) (below shared)))
      (each_both (IsTrueIn e) (map (λ i. only_new s.makes (symbols.Bound i)) (below s.bound)) _
      (each_map (IsTrueIn e) (λ i. only_new s.makes (symbols.Bound i)) (below s.bound)
      (each_from (λ i. IsTrueIn e (only_new s.makes (symbols.Bound i))) 0 s.bound
      (λ i low high. let b = bs i (omega arith) in only_true s.makes h.2 i b.0 (old_or_new (w.bound i) b.1))))
      (only_if_true e s.marked _ (each_map (IsTrueIn e) (λ i. unmarked (symbols.Shared i)) (below shared)
      (each_all (λ i. IsTrueIn e (unmarked (symbols.Shared i)))
      (λ i. unmarked_true (symbols.Shared i) (h.1 i) (before.means.now.value (symbols.MarkShared i) refl))
      (below shared)))))

  -- ---- operations

  pointer_true : ((v : ℕ) → value g (in_local w.acting v) ≡ 0) → (k : ℕ) → IsPlace is_pointer w.mine k
      → IsTrueIn e (equals (symbols.Mine k) symbols.Null)
  pointer_true none k is = null_true (symbols.Mine k)
      (before.means.sorts_are.my k ∙ ap local_sort is.1 ∙ ap pointer_sort is.2)
      (before.means.now.value (symbols.Mine k) refl ∙ ap (declared_value g w.acting w.mine k) is.1
      ∙ ap (λ b. if b then value g (in_local w.acting (pointer_number w.mine k))
      else value g (in_data w.acting (data_number w.mine k))) is.2 ∙ none (pointer_number w.mine k))

  other_true : ((k : ℕ) (l : Local) → slice_get w.mine k ≡ Some l → is_other_data l ≡ true
      → value g (in_data w.acting (data_number w.mine k)) ≡ 0) → (k : ℕ) → IsPlace is_other_data w.mine k
      → IsTrueIn e (equals (symbols.Mine k) (symbols.Number 0))
  other_true none k is =
      let kind = not-true is.0.pointer (and_parts (not is.0.pointer) (not is.0.param) is.2).0 in
      equal_is_true e (Constant (symbols.Mine k)) (Constant (symbols.Number 0)) [] (record {
        sort = before.means.sorts_are.my k ∙ ap local_sort is.1 ∙ ap pointer_sort kind
            ∙ sym (before.means.sorts_are.number 0);
        value = before.means.now.value (symbols.Mine k) refl ∙ ap (declared_value g w.acting w.mine k) is.1
            ∙ ap (λ b. if b then value g (in_local w.acting (pointer_number w.mine k))
            else value g (in_data w.acting (data_number w.mine k))) kind ∙ none k is.0 is.1 is.2
            ∙ sym (before.means.constants (symbols.Number 0) refl refl);
      })

  mark_true : ((v : ℕ) → value g (local_mark w.acting v) ≡ 0) → (k : ℕ) → IsPlace is_pointer w.mine k
      → IsTrueIn e (unmarked (symbols.Mine k))
  mark_true none k is = unmarked_true (symbols.Mine k)
      (ap (declared_mark g w.acting w.mine k) is.1
      ∙ ap (λ b. if b then value g (local_mark w.acting (pointer_number w.mine k)) else 0) is.2
      ∙ none (pointer_number w.mine k))
      (before.means.now.value (symbols.MarkMine k) refl)

  -- what is true of each pointer local
  each_pointer : (c : Symbol → List SymbolicLit)
      → ((k : ℕ) → IsPlace is_pointer w.mine k → IsTrueIn e (c (symbols.Mine k)))
      → Each (IsTrueIn e) (map c (variables_of false w.mine).pointers)
  each_pointer c h = each_map (IsTrueIn e) c (map (local_symbol false) (places_from is_pointer 0 w.mine))
      (each_map (λ p. IsTrueIn e (c p)) (local_symbol false) (places_from is_pointer 0 w.mine)
      (each_so (IsPlace is_pointer w.mine) (λ k. IsTrueIn e (c (symbols.Mine k))) h (places_from is_pointer 0 w.mine)
      (each_place_of is_pointer w.mine)))

  enter_true : (s : Setting) → s.mine ≡ variables_of false w.mine → ((v : ℕ) → value g (in_local w.acting v) ≡ 0)
      → ((v : ℕ) → value g (local_mark w.acting v) ≡ 0)
      → ((k : ℕ) (l : Local) → slice_get w.mine k ≡ Some l → is_other_data l ≡ true
      → value g (in_data w.acting (data_number w.mine k)) ≡ 0) → Each (IsTrueIn e) (enter_clauses w.mine s)
  enter_true s same pointers marks others =
      each_both (IsTrueIn e) (map (λ p. equals p symbols.Null) s.mine.pointers) _
      (subst (λ (vs : Variables). Each (IsTrueIn e) (map (λ p. equals p symbols.Null) vs.pointers)) (sym same)
      (each_pointer (λ p. equals p symbols.Null) (pointer_true pointers)))
      (each_both (IsTrueIn e)
      (map (λ k. equals (symbols.Mine k) (symbols.Number 0)) (places_from is_other_data 0 w.mine)) _
      (each_map (IsTrueIn e) (λ k. equals (symbols.Mine k) (symbols.Number 0)) (places_from is_other_data 0 w.mine)
      (each_so (IsPlace is_other_data w.mine) (λ k. IsTrueIn e (equals (symbols.Mine k) (symbols.Number 0)))
      (other_true others) (places_from is_other_data 0 w.mine) (each_place_of is_other_data w.mine)))
      (only_if_true e s.marked _
      (subst (λ (vs : Variables). Each (IsTrueIn e) (map unmarked vs.pointers)) (sym same)
      (each_pointer unmarked (mark_true marks)))))

  pub beginning_true : (flow : Flow) (s : Setting) (o : Obligation) → w.mine ≡ acting_locals flow o
      → s.mine ≡ variables_of false w.mine → BeginsAs w g o
      → ((i : ℕ) → i < s.bound → (0 < w.bound i) × (w.bound i < limit))
      → ((n : ℕ) → n < limit → (n < count g) ⊎ ((s.makes ≡ true) × (n ≡ count g)))
      → Each (IsTrueIn e) (beginning flow s o)
  beginning_true flow s (Start i) locals same h bs old_or_new =
      start_true (length flow.file.shared) s h bs old_or_new
  beginning_true flow s (Enter o c) locals same h bs old_or_new =
      subst (λ ls. Each (IsTrueIn e) (enter_clauses ls s)) locals (enter_true s same h.0 h.1 h.2)
  beginning_true flow s (Own k c) locals same h bs old_or_new = tt
  beginning_true flow s (Other k p c) locals same h bs old_or_new = tt
  beginning_true flow s (Claim k j) locals same h bs old_or_new = tt
