-- Clauses of outlines, read as terms, say what they say of the state.
use Rattle.std.proofs.Common.{◌≡◌, ℕ, zero, suc, Bool, true, false, not, ◌||◌, ◌==◌, List, [], ◌∷◌, map, Option, Some}
use Rattle.std.proofs.Common.{None, slice_get, refl, sym, ap, ◌∙◌, subst, inl, inr}
use Rattle.std.specs.Prelude.{slice_index_or, if◌then◌else◌}
use Rattle.std.specs.List.{list_any}
use Rattle.std.proofs.lemmas.Bool.{eq-eqb, eqb-true, not-true, both_ways, or_parts}
use Rattle.plc_lang.specs.declared.syntax.Local.{Local}
use Rattle.plc_lang.specs.declared.syntax.File.{File}
use Rattle.plc_lang.specs.Numbering.{value_number, value_at}
use Rattle.plc_lang.proofs.Numbers.{values_are_numbered}
use Rattle.plc_logic.specs.declared.clause.Base.{Base}
use Rattle.plc_logic.specs.declared.clause.Base.TheVariants as bases
use Rattle.plc_logic.specs.declared.clause.Term.{Term}
use Rattle.plc_logic.specs.declared.clause.Term.TheVariants as terms
use Rattle.plc_logic.specs.declared.clause.Sort.{Sort}
use Rattle.plc_logic.specs.declared.clause.Sort.TheVariants as sorts
use Rattle.plc_logic.specs.declared.clause.Literal.{Literal}
use Rattle.plc_logic.specs.declared.clause.Literal.TheVariants.{Same, Retired, Marked}
use Rattle.plc_logic.specs.Negation.{atom_of, negation}
use Rattle.plc_logic.specs.Fit.{InReach, pointer_sort, IsNode, HasSort, HoldsPointer, LiteralFits}
use Rattle.plc_ground.specs.declared.terms.Symbol.{Symbol}
use Rattle.plc_ground.specs.declared.terms.Symbol.TheVariants as symbols
use Rattle.plc_ground.specs.declared.terms.Map.{Map}
use Rattle.plc_ground.specs.declared.terms.Map.TheVariants as maps
use Rattle.plc_vocabulary.specs.Acts.{mark_of}
use Rattle.plc_vocabulary.specs.Setting.{local_symbol}
use Rattle.plc_vocabulary.specs.Sorts.{field_sort, auxiliary_sort, local_sort}
use Rattle.plc_encoding.specs.declared.execution.Execution.{Execution}
use Rattle.plc_encoding.specs.Execution.{current, version, map_now}
use Rattle.plc_encoding.specs.Items.{base_node, me, read_term, read_mark, read_literal}
use Rattle.plc_symbolic.specs.declared.symbolic.NodeTerm.{NodeTerm}
use Rattle.plc_symbolic.specs.declared.symbolic.NodeTerm.TheVariants.{At}
use Rattle.plc_symbolic.specs.declared.symbolic.SymbolicTerm.{SymbolicTerm}
use Rattle.plc_symbolic.specs.declared.symbolic.SymbolicTerm.TheVariants.{Constant}
use Rattle.plc_gc.specs.State.{GcState, entry}
use Rattle.plc_gc.specs.Clauses.{declared_value, declared_mark, local_value, local_mark_value, thread_number}
use Rattle.plc_gc.specs.Clauses.{base_node as gc_base_node, term_value, term_mark, atom_holds, literal_holds}
use Rattle.plc_flow.proofs.Each.{Each}
use Rattle.plc_outline_sound.proofs.Acts.{IsNamed, mark_named}
use Rattle.plc_outline_sound.proofs.Numbering.{LiteralIsTrue}
use Rattle.plc_outline_sound.proofs.Meaning.{Meaning, node_in, value_in, sort_in, IsTrueIn, node_value, node_sort}
use Rattle.plc_outline_sound.proofs.Executed.{IsCurrent}
use Rattle.plc_outline_sound.proofs.Scene.{Scene, locals_for, thread_for, value_or, symbol_in, gc_map, seen, slot_of}
use Rattle.plc_outline_sound.proofs.Variables.{SortsAre, mark_sort}

-- ---- whose clause it is

-- a local stands for its value in the state
pub local_is : (w : Scene) (g : GcState) (owner : Bool) (k : ℕ)
    → symbol_in w g (local_symbol owner k)
    ≡ declared_value g (thread_for w owner) (locals_for w owner) k (slice_get (locals_for w owner) k)
local_is w g false k = refl
local_is w g true k = refl

-- and its mark for that of its value
pub mark_is : (w : Scene) (g : GcState) (owner : Bool) (k : ℕ)
    → symbol_in w g (mark_of (local_symbol owner k))
    ≡ declared_mark g (thread_for w owner) (locals_for w owner) k (slice_get (locals_for w owner) k)
mark_is w g false k = refl
mark_is w g true k = refl

-- what a clause may name stands for what it names when it is asked for this thread, or for none
pub record IsReadFor (w : Scene) (file : File) (reach : InReach) (g : GcState) (who : Option ℕ)
    (owner : Bool) : Type 0 where
  pub of_file : reach.file ≡ file
  pub declared : (k : ℕ) (l : Local) → slice_get reach.locals k ≡ Some l → slice_get (locals_for w owner) k ≡ Some l
  pub value : (k : ℕ) (l : Local) → slice_get reach.locals k ≡ Some l
      → symbol_in w g (local_symbol owner k) ≡ local_value g who k
  pub marks : (k : ℕ) (l : Local) → slice_get reach.locals k ≡ Some l
      → symbol_in w g (mark_of (local_symbol owner k)) ≡ local_mark_value g who k
  pub thread : reach.in_operation ≡ true → symbol_in w g (me owner) ≡ thread_number who

-- what the meaning says of a state: constants that stand for the state's values, and maps
pub record Means (e : Meaning) (file : File) (w : Scene) (x : Execution) (g : GcState) : Type 0 where
  pub sorts_are : SortsAre e file w.mine w.theirs
  pub ghosts : w.ghosts ≡ file.ghosts
  pub now : IsCurrent e x (seen w g)
  pub entries : (m : Map) (n : ℕ) → e.version m (version x m) n ≡ entry g (gc_map g m) n
  pub constants : (s : Symbol) → slot_of w s ≡ None → IsNamed s → e.symbol s ≡ symbol_in w g s

pub local_named : (owner : Bool) (k : ℕ) → IsNamed (local_symbol owner k)
local_named false k = refl
local_named true k = refl

node_at : (e : Meaning) (names : List NodeTerm) (i : ℕ) → e.symbol_sort symbols.Null ≡ sorts.Node
    → Each (λ t. node_sort e t ≡ sorts.Node) names → node_sort e (slice_index_or names i (At symbols.Null)) ≡ sorts.Node
node_at e [] i null h = null
node_at e (t ∷ ts) zero null h = h.0
node_at e (t ∷ ts) (suc i) null h = node_at e ts i null h.1

module _ (e : Meaning) (file : File) (w : Scene) (x : Execution) (g : GcState) (means : Means e file w x g)
    (reach : InReach) (who : Option ℕ) (owner : Bool) (reads : IsReadFor w file reach g who owner)
    (names : List NodeTerm) (are_nodes : Each (λ t. node_sort e t ≡ sorts.Node) names) where
  -- the quantified names
  abbrev pub binding : ℕ → ℕ
  binding i = node_in e (slice_index_or names i (At symbols.Null))

  local_sorted : (k : ℕ) (l : Local) → slice_get reach.locals k ≡ Some l
      → e.symbol_sort (local_symbol owner k) ≡ pointer_sort l.pointer
  local_sorted k l at = go owner (reads.declared k l at)
    where
      go : (b : Bool) → slice_get (locals_for w b) k ≡ Some l
          → e.symbol_sort (local_symbol b k) ≡ pointer_sort l.pointer
      go false at = means.sorts_are.my k ∙ ap local_sort at
      go true at = means.sorts_are.other k ∙ ap local_sort at

  local_read : (k : ℕ) (l : Local) → slice_get reach.locals k ≡ Some l
      → e.symbol (current x (local_symbol owner k)) ≡ local_value g who k
  local_read k l at = means.now.value (local_symbol owner k) (local_named owner k) ∙ reads.value k l at

  -- ---- nodes and terms

  base_is : (b : Base) → IsNode reach b → node_in e (base_node x owner names b) ≡ gc_base_node g who binding b
  base_is (bases.Shared i) h = means.now.value (symbols.Shared i) refl
  base_is (bases.Local k) h = local_read k h.0 h.1
  base_is (bases.Bound i) h = refl

  -- a term has its value, and its sort
  record IsRead (t : Term) (s : Sort) : Type 0 where
    value : value_in e (read_term file.ghosts x owner names t) ≡ term_value g who binding t
    sort : sort_in e (read_term file.ghosts x owner names t) ≡ s

  map_is : (m : Map) (b : Base) → IsNode reach b
      → value_in e (map_now x m (base_node x owner names b)) ≡ entry g (gc_map g m) (gc_base_node g who binding b)
  map_is m b h = means.entries m (node_in e (base_node x owner names b)) ∙ ap (entry g (gc_map g m)) (base_is b h)

  term_is : (t : Term) (s : Sort) → HasSort reach t s → IsRead t s
  term_is (terms.Shared i) s h = record {
    value = means.now.value (symbols.Shared i) refl;
    sort = means.now.sort (symbols.Shared i) ∙ means.sorts_are.shared i ∙ sym h.1;
  }
  term_is (terms.Local k) s h = record {
    value = local_read k h.0 h.1;
    sort = means.now.sort (local_symbol owner k) ∙ local_sorted k h.0 h.1 ∙ sym h.2;
  }
  term_is (terms.Bound i) s h = record {
    value = node_value e (slice_index_or names i (At symbols.Null));
    sort = node_at e names i means.sorts_are.null are_nodes ∙ sym h.1;
  }
  term_is (terms.FieldOf b f) s h = record {
    value = map_is (maps.Field f) b h.0;
    sort = means.sorts_are.maps (maps.Field f)
        ∙ ap field_sort (subst (λ (file : File). slice_get file.fields f.0 ≡ Some h.1) reads.of_file h.2) ∙ sym h.3;
  }
  term_is (terms.GhostOf b i) s h = record {
    value = map_is (maps.Ghost i) b h.0;
    sort = means.sorts_are.maps (maps.Ghost i)
        ∙ ap (auxiliary_sort i) (subst (λ (file : File). slice_get file.ghosts i ≡ Some h.1) reads.of_file h.2)
        ∙ sym h.3;
  }
  term_is terms.Null s h = record {
    value = means.constants symbols.Null refl refl;
    sort = means.sorts_are.null ∙ sym h;
  }
  term_is (terms.Number n) s h = record {
    value = means.constants (symbols.Number n) refl refl;
    sort = means.sorts_are.number n ∙ sym h;
  }
  term_is (terms.Value i v) s h =
      let named = subst (λ (file : File). slice_get file.ghosts i ≡ Some h.0) reads.of_file h.1 in
      let there = (values_are_numbered file.ghosts).there i v h.0 named h.2 in
      record {
        value = means.constants (symbols.Value (value_number file.ghosts i v)) refl refl
            ∙ ap (λ gs. value_or (value_number file.ghosts i v)
            (value_at gs (value_number file.ghosts i v))) means.ghosts
            ∙ ap (value_or (value_number file.ghosts i v)) there;
        sort = means.sorts_are.value (value_number file.ghosts i v)
            ∙ ap Rattle.plc_vocabulary.specs.Sorts.value_sort there ∙ sym h.3;
      }
  term_is terms.Me s h = record { value = me_is owner refl; sort = me_sorted owner ∙ sym h.1 }
    where
      me_sorted : (b : Bool) → e.symbol_sort (me b) ≡ sorts.Thread
      me_sorted false = means.sorts_are.me
      me_sorted true = means.sorts_are.you

      me_fixed : (b : Bool) → e.symbol (me b) ≡ symbol_in w g (me b)
      me_fixed false = means.constants symbols.Me refl refl
      me_fixed true = means.constants symbols.You refl refl

      me_is : (b : Bool) → owner ≡ b → e.symbol (me owner) ≡ thread_number who
      me_is b same = me_fixed owner ∙ reads.thread h.0
  term_is terms.Nobody s h = record {
    value = means.constants symbols.Nobody refl refl;
    sort = means.sorts_are.nobody ∙ sym h;
  }

  -- ---- literals

  same_true : (a b : Term) (s : Sort) (equal : Bool) → HasSort reach a s → HasSort reach b s
      → literal_holds g who binding (Same a b equal) ≡ true
      → LiteralIsTrue (sort_in e) (value_in e) (read_literal file.ghosts x owner names (Same a b equal))
  same_true a b s true i j h = (
    (term_is a s i).sort ∙ sym (term_is b s j).sort,
    (term_is a s i).value
        ∙ eqb-true (term_value g who binding a) (term_value g who binding b) h ∙ sym (term_is b s j).value,
  )
  same_true a b s false i j h = λ same. both_ways (term_value g who binding a == term_value g who binding b)
      (not-true (term_value g who binding a == term_value g who binding b) h)
      (eq-eqb (term_value g who binding a) (term_value g who binding b)
      (sym (term_is a s i).value ∙ same ∙ (term_is b s j).value))

  -- a term of the sort of truths is `yes` where its value is 1, and isn't elsewhere
  truth_true : (t : SymbolicTerm) (n : ℕ) (is_so : Bool) → sort_in e t ≡ sorts.Truth → value_in e t ≡ n
      → (if is_so then n == 1 else not (n == 1)) ≡ true
      → LiteralIsTrue (sort_in e) (value_in e) (record { left = t; right = Constant symbols.Yes; equal = is_so })
  truth_true t n true sort value h =
      (sort ∙ sym means.sorts_are.yes, value ∙ eqb-true n 1 h ∙ sym (means.constants symbols.Yes refl refl))
  truth_true t n false sort value h = λ same. both_ways (n == 1) (not-true (n == 1) h)
      (eq-eqb n 1 (sym value ∙ same ∙ means.constants symbols.Yes refl refl))

  -- a place of a pointer has its mark
  mark_read : (t : Term) → HoldsPointer reach t → value_in e (read_mark x owner names t) ≡ term_mark g who binding t
  mark_read (terms.Shared i) h = means.now.value (symbols.MarkShared i) refl
  mark_read (terms.Local k) h =
      means.now.value (mark_of (local_symbol owner k)) (mark_named (local_symbol owner k) (local_named owner k))
      ∙ reads.marks k h.0 h.1
  mark_read (terms.FieldOf b f) h = map_is (maps.FieldMark f) b h.0
  mark_read _ h = absurd h

  mark_sorted : (t : Term) → HoldsPointer reach t → sort_in e (read_mark x owner names t) ≡ sorts.Truth
  mark_sorted (terms.Shared i) h = means.now.sort (symbols.MarkShared i) ∙ means.sorts_are.shared_marks i
  mark_sorted (terms.Local k) h =
      means.now.sort (mark_of (local_symbol owner k)) ∙ mark_sort means.sorts_are (local_symbol owner k)
  mark_sorted (terms.FieldOf b f) h = means.sorts_are.maps (maps.FieldMark f)
  mark_sorted _ h = means.sorts_are.no

  literal_true : (l : Literal) → LiteralFits reach l → literal_holds g who binding l ≡ true
      → LiteralIsTrue (sort_in e) (value_in e) (read_literal file.ghosts x owner names l)
  literal_true (Same a b equal) fits h = same_true a b fits.0 equal fits.1 fits.2 h
  literal_true (Retired b is_so) fits h =
      truth_true (map_now x maps.Retired (base_node x owner names b))
      (entry g (gc_map g maps.Retired) (gc_base_node g who binding b)) is_so
      (means.sorts_are.maps maps.Retired) (map_is maps.Retired b fits) h
  literal_true (Marked t is_so) fits h =
      truth_true (read_mark x owner names t) (term_mark g who binding t) is_so (mark_sorted t fits) (mark_read t fits) h

  -- a clause that holds is true
  pub some_true : (ls : List Literal) → Each (LiteralFits reach) ls → list_any (literal_holds g who binding) ls ≡ true
      → IsTrueIn e (map (read_literal file.ghosts x owner names) ls)
  some_true [] fits h = cc
  some_true (l ∷ ls) fits h = go (some_true ls fits.1) (literal_holds g who binding l) refl h
    where
      go : (list_any (literal_holds g who binding) ls ≡ true
          → IsTrueIn e (map (read_literal file.ghosts x owner names) ls)) → (b : Bool)
          → literal_holds g who binding l ≡ b
          → (b || list_any (literal_holds g who binding) ls) ≡ true
          → IsTrueIn e (map (read_literal file.ghosts x owner names) (l ∷ ls))
      go rest true is h = inl (literal_true l fits.0 is)
      go rest false is h = inr (rest h)

  -- ---- negations

  turned : (is_so b : Bool) → (if is_so then b else not b) ≡ false → (if not is_so then b else not b) ≡ true
  turned true b h = ap not h
  turned false true h = refl
  turned false false h = cc

  negated : (l : Literal) → literal_holds g who binding l ≡ false → literal_holds g who binding (negation l) ≡ true
  negated (Same a b equal) h = turned equal (atom_holds g who binding (atom_of (Same a b equal))) h
  negated (Retired b is_so) h = turned is_so (atom_holds g who binding (atom_of (Retired b is_so))) h
  negated (Marked t is_so) h = turned is_so (atom_holds g who binding (atom_of (Marked t is_so))) h

  negation_fits : (l : Literal) → LiteralFits reach l → LiteralFits reach (negation l)
  negation_fits (Same a b equal) h = h
  negation_fits (Retired b is_so) h = h
  negation_fits (Marked t is_so) h = h

  -- of a clause that is false each literal's negation is true
  pub none_true : (ls : List Literal) → Each (LiteralFits reach) ls → list_any (literal_holds g who binding) ls ≡ false
      → Each (IsTrueIn e) (map (λ l. read_literal file.ghosts x owner names (negation l) ∷ []) ls)
  none_true [] fits h = tt
  none_true (l ∷ ls) fits h =
      let parts = or_parts (literal_holds g who binding l) (list_any (literal_holds g who binding) ls) h in
      (inl (literal_true (negation l) (negation_fits l fits.0) (negated l parts.0)), none_true ls fits.1 parts.1)
