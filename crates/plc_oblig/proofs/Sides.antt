-- The two sides of each literal of a ground set have one sort, item by item.
use Rattle.std.proofs.Common.{◌≡◌, ℕ, zero, suc, ◌+◌, Bool, true, false, not, ◌&&◌, ◌==◌, unwrap_or, List, [], ◌∷◌, ◌++◌, length, map, slice_get, Option, Some, None, refl, sym, ap, ◌∙◌, subst, arith, append_assoc}
use Rattle.std.specs.Prelude.{if◌then◌else◌, flat_map, slice_index_or}
use Rattle.std.specs.List.{range_with_len}
use Rattle.std.proofs.lemmas.Bool.{eqb-true, eqb-false}
use Rattle.std.proofs.lemmas.List.Sums.{fold_push}
use Rattle.plc_base.specs.declared.ids.FieldId.{FieldId}
use Rattle.plc_lang.specs.declared.syntax.Field.{Field}
use Rattle.plc_lang.specs.declared.syntax.Ghost.{Ghost}
use Rattle.plc_lang.specs.declared.syntax.Local.{Local}
use Rattle.plc_lang.specs.declared.syntax.Primitive.{Primitive}
use Rattle.plc_lang.specs.declared.syntax.Primitive.TheVariants as prims
use Rattle.plc_lang.specs.declared.syntax.Var.{Var}
use Rattle.plc_lang.specs.declared.syntax.Var.TheVariants as vars
use Rattle.plc_lang.specs.Locals.{is_other_data}
use Rattle.plc_lang.specs.Numbering.{places_from}
use Rattle.plc_lang.proofs.Numbers.{values_are_numbered}
use Rattle.plc_flow.specs.declared.flow.Flow.{Flow}
use Rattle.plc_flow.proofs.Each.{Each, each_both, each_get, each_so}
use Rattle.plc_logic.specs.declared.clause.Sort.{Sort}
use Rattle.plc_logic.specs.declared.clause.Sort.TheVariants as sorts
use Rattle.plc_logic.specs.declared.clause.Clause.{Clause}
use Rattle.plc_logic.specs.declared.clause.Literal.{Literal}
use Rattle.plc_logic.specs.declared.clause.Literal.TheVariants as literals
use Rattle.plc_logic.specs.declared.clause.Term.{Term}
use Rattle.plc_logic.specs.declared.clause.Term.TheVariants as terms
use Rattle.plc_logic.specs.Fit.{InReach, pointer_sort, ghost_sort, HasSort, LiteralFits, ClauseFits, in_reach_of}
use Rattle.plc_logic.specs.Negation.{negation}
use Rattle.plc_ground.specs.declared.terms.Symbol.{Symbol}
use Rattle.plc_ground.specs.declared.terms.Symbol.TheVariants as symbols
use Rattle.plc_ground.specs.declared.terms.Map.TheVariants as maps
use Rattle.plc_symbolic.specs.declared.symbolic.NodeTerm.{NodeTerm}
use Rattle.plc_symbolic.specs.declared.symbolic.NodeTerm.TheVariants.{At}
use Rattle.plc_symbolic.specs.declared.symbolic.SymbolicTerm.TheVariants.{Constant, Application}
use Rattle.plc_symbolic.specs.declared.symbolic.SymbolicLit.{SymbolicLit}
use Rattle.plc_ground.specs.Symbols.{same_symbol}
use Rattle.plc_symbolic.specs.Terms.{Clauses, term_of, is, is_not, null}
use Rattle.plc_vocabulary.specs.declared.acts.Act.{Act}
use Rattle.plc_vocabulary.specs.declared.acts.Act.TheVariants.{Assign, Make, Fetch, FetchMarked, Update, Test, Differ, Skip}
use Rattle.plc_vocabulary.specs.declared.obligations.Obligation.{Obligation}
use Rattle.plc_vocabulary.specs.declared.obligations.Obligation.TheVariants.{Start, Enter, Own, Other, Claim}
use Rattle.plc_vocabulary.specs.declared.setting.Setting.{Setting}
use Rattle.plc_vocabulary.specs.Acts.{pointer_symbol, mark_of}
use Rattle.plc_vocabulary.specs.Parts.{acting_locals}
use Rattle.plc_vocabulary.specs.Setting.{below, only_if, local_symbol}
use Rattle.plc_vocabulary.specs.Sorts.{field_sort, auxiliary_sort, local_sort, load_sort, loads_of, value_sort, map_sort, symbol_sort, sort_of}
use Rattle.plc_vocabulary.specs.WellSorted.{ActFits, NodesFit}
use Rattle.plc_vocabulary.proofs.ActSorts.{kind_at_place}
use Rattle.plc_encoding.specs.declared.execution.Execution.{Execution}
use Rattle.plc_encoding.specs.Execution.{start, current, version, held, after, after_all, not_null, update_at, if_checked, test_lit, act_clauses, executed_clauses}
use Rattle.plc_encoding.specs.Items.{one_of_values, field_values, values_from, set_or_not, field_marks, mark_values}
use Rattle.plc_encoding.specs.Items.{equals, unmarked, only_new, start_clauses, enter_clauses, beginning, is_other}
use Rattle.plc_encoding.specs.Items.{field_default, field_defaults_from, ghost_default, ghost_defaults_from, no_field_leads}
use Rattle.plc_encoding.specs.Items.{unretired, default_is, unmarked_field, freshness, me, read_term, read_mark, read_literal}
use Rattle.plc_encoding.specs.Items.{escapes, instance_at, tuples, instances, bound_nodes, denied_clause, denied_claim}
use Rattle.plc_ground.proofs.Symbols.{same_symbol_true}
use Rattle.plc_oblig.proofs.Lists.{each_flat, each_map, each_all, each_from, each_place, each_of_all}
use Rattle.plc_oblig.proofs.ValueSorts.{NumberedFrom, numbered_next, value_is_of}

-- the execution with one assignment more, and so many reads
abbrev pub given : Execution → Symbol → Symbol → ℕ → Execution
given x p c loads = record { assigned = x.assigned ++ (p, c) ∷ []; written = x.written; loads = loads }

-- the variable has its new constant, and every other its old one
pub current_given : (x : Execution) (p c s : Symbol) (loads : ℕ)
    → current (given x p c loads) s ≡ (if same_symbol p s then c else current x s)
current_given x p c s loads =
    fold_push (λ (now : Symbol) (a : Symbol × Symbol). if same_symbol a.0 s then a.1 else now) s x.assigned (p, c)

-- a pointer that is read with its mark is two assignments, of the mark first
pub marked_fetch : (x : Execution) (p q : Symbol) (f : FieldId) → after x (FetchMarked p q f)
    ≡ given (given x (mark_of p) (symbols.MarkLoaded x.loads) x.loads) p (symbols.Loaded x.loads) (x.loads + 1)
marked_fetch x p q f =
    ap (λ list. record { assigned = list; written = x.written; loads = x.loads + 1 })
    (sym (append_assoc x.assigned ((mark_of p, symbols.MarkLoaded x.loads) ∷ []) ((p, symbols.Loaded x.loads) ∷ [])))

module _ (flow : Flow) (o : Obligation) (s : Setting) (fit : NodesFit flow o s) where
  abbrev sort : Symbol → Sort
  sort c = symbol_sort flow o s.acts c

  abbrev pub IsTerm : NodeTerm → Type 0
  IsTerm n = sort_of flow o s.acts (term_of n) ≡ sorts.Node

  abbrev pub OneSort : SymbolicLit → Type 0
  OneSort l = sort_of flow o s.acts l.left ≡ sort_of flow o s.acts l.right

  abbrev pub IsSorted : List SymbolicLit → Type 0
  IsSorted c = Each OneSort c

  abbrev pub AreSorted : Clauses → Type 0
  AreSorted cs = Each IsSorted cs

  -- ---- values

  one_of_sorted : (g first : ℕ) (d : Ghost) → slice_get flow.file.ghosts g ≡ Some d → NumberedFrom flow.file.ghosts g first → (t : NodeTerm) → IsSorted (one_of_values g first (length d.values) t)
  one_of_sorted g first d at from t =
      each_map OneSort (λ v. is (Application (maps.Ghost g) 0 t) (Constant (symbols.Value v))) (range_with_len first (length d.values))
      (each_from (λ v. OneSort (is (Application (maps.Ghost g) 0 t) (Constant (symbols.Value v)))) first (length d.values)
      (λ v low high. ap (auxiliary_sort g) at ∙ sym (value_is_of flow.file.ghosts g first v d at from low high)))

  field_sorted : (g first : ℕ) (d : Ghost) → slice_get flow.file.ghosts g ≡ Some d → NumberedFrom flow.file.ghosts g first → (ts : List NodeTerm) → AreSorted (field_values g first (length d.values) ts)
  field_sorted g first d at from ts = go (length d.values == 0)
    where
      go : (b : Bool) → AreSorted (if b then [] else map (one_of_values g first (length d.values)) ts)
      go true = tt
      go false = each_map IsSorted (one_of_values g first (length d.values)) ts (each_all (λ t. IsSorted (one_of_values g first (length d.values) t)) (one_of_sorted g first d at from) ts)

  values_sorted : (g first : ℕ) (hs : List Ghost) → ((j : ℕ) (d : Ghost) → slice_get hs j ≡ Some d → slice_get flow.file.ghosts (g + j) ≡ Some d) → NumberedFrom flow.file.ghosts g first → (ts : List NodeTerm) → AreSorted (values_from g first hs ts)
  values_sorted g first [] at from ts = tt
  values_sorted g first (d ∷ hs) at from ts =
      let here = ap (slice_get flow.file.ghosts) (let same : g ≡ g + 0 = omega arith in same) ∙ at 0 d refl in
      each_both IsSorted (field_values g first (length d.values) ts) (values_from (g + 1) (first + length d.values) hs ts)
      (field_sorted g first d here from ts)
      (values_sorted (g + 1) (first + length d.values) hs (λ j k is. ap (slice_get flow.file.ghosts) (let same : g + 1 + j ≡ g + suc j = omega arith in same) ∙ at (suc j) k is) (numbered_next flow.file.ghosts g first d here from) ts)

  pub all_values_sorted : (ts : List NodeTerm) → AreSorted (values_from 0 0 flow.file.ghosts ts)
  all_values_sorted ts = values_sorted 0 0 flow.file.ghosts (λ j d at. ap (slice_get flow.file.ghosts) (let same : 0 + j ≡ j = omega arith in same) ∙ at) refl ts

  -- ---- marks

  -- what is said of marks alone
  only_sorted : (b : Bool) (cs : Clauses) → AreSorted cs → AreSorted (only_if b cs)
  only_sorted true cs h = h
  only_sorted false cs h = tt

  mark_is_truth : (c : Symbol) → sort (mark_of c) ≡ sorts.Truth
  mark_is_truth (symbols.Shared i) = refl
  mark_is_truth _ = refl

  unmarked_sorted : (ps : List Symbol) → AreSorted (map unmarked ps)
  unmarked_sorted ps =
      each_map IsSorted unmarked ps (each_all (λ p. IsSorted (unmarked p)) (λ p. (mark_is_truth p, tt)) ps)

  pub mark_values_sorted : AreSorted (mark_values s)
  mark_values_sorted = only_sorted s.marked _
      (each_both IsSorted (map (λ m. set_or_not (Constant m)) s.marks) (flat_map (field_marks s.nodes) s.fields)
      (each_map IsSorted (λ m. set_or_not (Constant m)) s.marks
      (each_so (λ m. sort m ≡ sorts.Truth) (λ m. IsSorted (set_or_not (Constant m))) (λ m h. (h, (h, tt))) s.marks
      (each_of_all (λ m. sort m ≡ sorts.Truth) s.marks fit.marks)))
      (each_flat IsSorted (field_marks s.nodes) s.fields
      (each_all (λ f. AreSorted (field_marks s.nodes f)) (λ f. each_map IsSorted (λ t. set_or_not (Application (maps.FieldMark f) 0 t)) s.nodes
      (each_all (λ t. IsSorted (set_or_not (Application (maps.FieldMark f) 0 t))) (λ t. (refl, (refl, tt))) s.nodes)) s.fields)))

  -- ---- the beginning

  only_new_sorted : (makes : Bool) (i : ℕ) → IsSorted (only_new makes (symbols.Bound i))
  only_new_sorted true i = (refl, tt)
  only_new_sorted false i = tt

  start_sorted : (shared : ℕ) → AreSorted (start_clauses shared s)
  start_sorted shared =
      each_both IsSorted (map (λ i. equals (symbols.Shared i) symbols.Null) (below shared)) _
      (each_map IsSorted (λ i. equals (symbols.Shared i) symbols.Null) (below shared)
      (each_all (λ i. IsSorted (equals (symbols.Shared i) symbols.Null)) (λ i. (refl, tt)) (below shared)))
      (each_both IsSorted (map (λ i. only_new s.makes (symbols.Bound i)) (below s.bound)) _
      (each_map IsSorted (λ i. only_new s.makes (symbols.Bound i)) (below s.bound)
      (each_all (λ i. IsSorted (only_new s.makes (symbols.Bound i))) (only_new_sorted s.makes) (below s.bound)))
      (only_sorted s.marked _ (each_map IsSorted (λ i. unmarked (symbols.Shared i)) (below shared)
      (each_all (λ i. IsSorted (unmarked (symbols.Shared i))) (λ i. (refl, tt)) (below shared)))))

  data_is_number : (p q : Bool) → (not p && not q) ≡ true → pointer_sort p ≡ sorts.Number
  data_is_number true q h = cc
  data_is_number false q h = refl

  zero_sorted : (ls : List Local) → acting_locals flow o ≡ ls → (j k : ℕ) → slice_get (places_from is_other_data 0 ls) j ≡ Some k → IsSorted (equals (symbols.Mine k) (symbols.Number 0))
  zero_sorted ls same j k at =
      let l = kind_at_place is_other_data ls 0 j k at in
      let place : k ≡ l.0 = omega (arith, l.2) in
      (ap (λ ls. local_sort (slice_get ls k)) same ∙ ap (λ n. local_sort (slice_get ls n)) place ∙ ap local_sort l.3 ∙ data_is_number l.1.pointer l.1.param l.4, tt)

  enter_sorted : (ls : List Local) → acting_locals flow o ≡ ls → AreSorted (enter_clauses ls s)
  enter_sorted ls same =
      each_both IsSorted (map (λ p. equals p symbols.Null) s.mine.pointers) _
      (each_map IsSorted (λ p. equals p symbols.Null) s.mine.pointers
      (each_so (λ p. sort p ≡ sorts.Node) (λ p. IsSorted (equals p symbols.Null)) (λ p h. (h, tt)) s.mine.pointers
      (each_of_all (λ p. sort p ≡ sorts.Node) s.mine.pointers fit.mine.pointers)))
      (each_both IsSorted (map (λ k. equals (symbols.Mine k) (symbols.Number 0)) (places_from is_other_data 0 ls)) _
      (each_map IsSorted (λ k. equals (symbols.Mine k) (symbols.Number 0)) (places_from is_other_data 0 ls)
      (each_place (λ k. IsSorted (equals (symbols.Mine k) (symbols.Number 0))) (places_from is_other_data 0 ls)
      (zero_sorted ls same)))
      (only_sorted s.marked _ (unmarked_sorted s.mine.pointers)))

  pub beginning_sorted : (q : Obligation) → acting_locals flow o ≡ acting_locals flow q → AreSorted (beginning flow s q)
  beginning_sorted (Start i) same = start_sorted (length flow.file.shared)
  beginning_sorted (Enter op c) same = enter_sorted (acting_locals flow (Enter op c)) same
  beginning_sorted (Own k c) same = tt
  beginning_sorted (Other k p c) same = tt
  beginning_sorted (Claim k j) same = tt

  -- ---- the new node

  field_default_sort : (pointer : Bool) → pointer_sort pointer ≡ sort (field_default pointer)
  field_default_sort true = refl
  field_default_sort false = refl

  fields_sorted : (k : ℕ) (fs : List Field) → ((j : ℕ) (f : Field) → slice_get fs j ≡ Some f → slice_get flow.file.fields (k + j) ≡ Some f) → AreSorted (field_defaults_from k fs)
  fields_sorted k [] h = tt
  fields_sorted k (f ∷ fs) h =
      let here = ap (slice_get flow.file.fields) (let same : k ≡ k + 0 = omega arith in same) ∙ h 0 f refl in (
        (ap field_sort here ∙ field_default_sort f.pointer, tt),
        fields_sorted (k + 1) fs (λ j d at. ap (slice_get flow.file.fields) (let same : k + 1 + j ≡ k + suc j = omega arith in same) ∙ h (suc j) d at),
      )

  no_values : (g : ℕ) (vs : List ℕ) → length vs ≡ 0 → ghost_sort g vs ≡ sorts.Thread
  no_values g [] none = refl
  no_values g (v ∷ vs) none = absurd (omega arith)

  ghost_sorted : (g first : ℕ) (d : Ghost) → slice_get flow.file.ghosts g ≡ Some d → NumberedFrom flow.file.ghosts g first → IsSorted (default_is (maps.Ghost g) (ghost_default first (length d.values)))
  ghost_sorted g first d at from = go (length d.values == 0) refl
    where
      go : (b : Bool) → (length d.values == 0) ≡ b → IsSorted (default_is (maps.Ghost g) (if b then symbols.Nobody else symbols.Value first))
      go true z = (ap (auxiliary_sort g) at ∙ no_values g d.values (eqb-true (length d.values) 0 z), tt)
      go false z =
          let other = eqb-false (length d.values) 0 z in
          (ap (auxiliary_sort g) at ∙ sym (value_is_of flow.file.ghosts g first first d at from (omega arith) (omega arith)), tt)

  ghosts_sorted : (g first : ℕ) (hs : List Ghost) → ((j : ℕ) (d : Ghost) → slice_get hs j ≡ Some d → slice_get flow.file.ghosts (g + j) ≡ Some d) → NumberedFrom flow.file.ghosts g first → AreSorted (ghost_defaults_from g first hs)
  ghosts_sorted g first [] at from = tt
  ghosts_sorted g first (d ∷ hs) at from =
      let here = ap (slice_get flow.file.ghosts) (let same : g ≡ g + 0 = omega arith in same) ∙ at 0 d refl in (
        ghost_sorted g first d here from,
        ghosts_sorted (g + 1) (first + length d.values) hs (λ j k is. ap (slice_get flow.file.ghosts) (let same : g + 1 + j ≡ g + suc j = omega arith in same) ∙ at (suc j) k is) (numbered_next flow.file.ghosts g first d here from),
      )

  pointers_sorted : AreSorted (map (λ p. is_other (Constant p)) s.pointers)
  pointers_sorted = each_map IsSorted (λ p. is_other (Constant p)) s.pointers
      (each_so (λ p. sort p ≡ sorts.Node) (λ p. IsSorted (is_other (Constant p))) (λ p h. (sym h, tt)) s.pointers (each_of_all (λ p. sort p ≡ sorts.Node) s.pointers fit.pointers))

  leads_sorted : (ts : List NodeTerm) → AreSorted (flat_map (no_field_leads s.fields) ts)
  leads_sorted ts = each_flat IsSorted (no_field_leads s.fields) ts (each_all (λ t. AreSorted (no_field_leads s.fields t))
      (λ t. each_map IsSorted (λ f. is_other (Application (maps.Field f) 0 t)) s.fields
      (each_so (λ f. map_sort flow.file (maps.Field f) ≡ sorts.Node) (λ f. IsSorted (is_other (Application (maps.Field f) 0 t))) (λ f h. (sym h, tt)) s.fields
      (each_of_all (λ f. map_sort flow.file (maps.Field f) ≡ sorts.Node) s.fields fit.fields))) ts)

  unmarked_fields : AreSorted (map unmarked_field s.fields)
  unmarked_fields = each_map IsSorted unmarked_field s.fields
      (each_all (λ f. IsSorted (unmarked_field f)) (λ f. (refl, tt)) s.fields)

  pub freshness_sorted : AreSorted (freshness flow.file s)
  freshness_sorted = only_sorted s.makes _ (
    (refl, tt),
    each_both IsSorted (map (λ p. is_other (Constant p)) s.pointers) _ pointers_sorted
        (each_both IsSorted (flat_map (no_field_leads s.fields) s.nodes) _ (leads_sorted s.nodes)
        (each_both IsSorted (field_defaults_from 0 flow.file.fields) _ (fields_sorted 0 flow.file.fields
        (λ j f at. ap (slice_get flow.file.fields) (let same : 0 + j ≡ j = omega arith in same) ∙ at))
        (each_both IsSorted (ghost_defaults_from 0 0 flow.file.ghosts) _ (ghosts_sorted 0 0 flow.file.ghosts
        (λ j d at. ap (slice_get flow.file.ghosts) (let same : 0 + j ≡ j = omega arith in same) ∙ at) refl)
        (each_both IsSorted unretired _ ((refl, tt), tt) (only_sorted s.marked _ unmarked_fields))))),
  )

  -- ---- clauses of the outline

  -- a constant that is current has the sort of its variable
  abbrev pub Keeps : Execution → Type 0
  Keeps x = (c : Symbol) → sort (current x c) ≡ sort c

  pub nothing_yet : Keeps start
  nothing_yet c = refl

  -- a clause that fits locals whose constants have their sorts
  pub record Readable (owner : Bool) (c : Clause) : Type 0 where
    pub locals : List Local
    pub inside : Bool
    pub known : (k : ℕ) (l : Local) → slice_get locals k ≡ Some l → sort (local_symbol owner k) ≡ pointer_sort l.pointer
    pub fits : ClauseFits flow.file locals inside c

  node_at : (names : List NodeTerm) (i : ℕ) → Each IsTerm names → IsTerm (slice_index_or names i (At symbols.Null))
  node_at [] i h = refl
  node_at (t ∷ ts) zero h = h.0
  node_at (t ∷ ts) (suc i) h = node_at ts i h.1

  me_sorted : (owner : Bool) → sort (me owner) ≡ sorts.Thread
  me_sorted false = refl
  me_sorted true = refl

  module _ (x : Execution) (keeps : Keeps x) (owner : Bool) (c : Clause) (r : Readable owner c) (names : List NodeTerm) (are_nodes : Each IsTerm names) where
    abbrev reach : InReach
    reach = in_reach_of flow.file r.locals r.inside c

    term_sorted : (t : Term) (z : Sort) → HasSort reach t z → sort_of flow o s.acts (read_term flow.file.ghosts x owner names t) ≡ z
    term_sorted (terms.Shared i) z h = keeps (symbols.Shared i) ∙ sym h.1
    term_sorted (terms.Local k) z h = keeps (local_symbol owner k) ∙ r.known k h.0 h.1 ∙ sym h.2
    term_sorted (terms.Bound i) z h = node_at names i are_nodes ∙ sym h.1
    term_sorted (terms.FieldOf b f) z h = ap field_sort h.2 ∙ sym h.3
    term_sorted (terms.GhostOf b g) z h = ap (auxiliary_sort g) h.2 ∙ sym h.3
    term_sorted terms.Null z h = sym h
    term_sorted (terms.Number n) z h = sym h
    term_sorted (terms.Value g v) z h = ap value_sort ((values_are_numbered flow.file.ghosts).there g v h.0 h.1 h.2) ∙ sym h.3
    term_sorted terms.Me z h = me_sorted owner ∙ sym h.1
    term_sorted terms.Nobody z h = sym h

    -- no mark but that of a place of a pointer is asked, and every mark has its sort
    mark_sorted : (t : Term) → sort_of flow o s.acts (read_mark x owner names t) ≡ sorts.Truth
    mark_sorted (terms.Shared i) = keeps (symbols.MarkShared i)
    mark_sorted (terms.Local k) = keeps (mark_of (local_symbol owner k)) ∙ mark_is_truth (local_symbol owner k)
    mark_sorted (terms.Bound i) = refl
    mark_sorted (terms.FieldOf b f) = refl
    mark_sorted (terms.GhostOf b g) = refl
    mark_sorted terms.Null = refl
    mark_sorted (terms.Number n) = refl
    mark_sorted (terms.Value g v) = refl
    mark_sorted terms.Me = refl
    mark_sorted terms.Nobody = refl

    literal_sorted : (l : Literal) → LiteralFits reach l → OneSort (read_literal flow.file.ghosts x owner names l)
    literal_sorted (literals.Same a b equal) h = term_sorted a h.0 h.1 ∙ sym (term_sorted b h.0 h.2)
    literal_sorted (literals.Retired b is_so) h = refl
    literal_sorted (literals.Marked t is_so) h = mark_sorted t

    negation_sorted : (l : Literal) → LiteralFits reach l → OneSort (read_literal flow.file.ghosts x owner names (negation l))
    negation_sorted (literals.Same a b equal) h = term_sorted a h.0 h.1 ∙ sym (term_sorted b h.0 h.2)
    negation_sorted (literals.Retired b is_so) h = refl
    negation_sorted (literals.Marked t is_so) h = mark_sorted t

    literals_fit : Each (LiteralFits reach) c.literals
    literals_fit = each_of_all (LiteralFits reach) c.literals r.fits.each

    pub literals_sorted : IsSorted (map (read_literal flow.file.ghosts x owner names) c.literals)
    literals_sorted = each_map OneSort (read_literal flow.file.ghosts x owner names) c.literals
        (each_so (LiteralFits reach) (λ l. OneSort (read_literal flow.file.ghosts x owner names l)) literal_sorted c.literals literals_fit)

    pub negations_sorted : AreSorted (map (λ l. read_literal flow.file.ghosts x owner names (negation l) ∷ []) c.literals)
    negations_sorted = each_map IsSorted (λ l. read_literal flow.file.ghosts x owner names (negation l) ∷ []) c.literals
        (each_so (LiteralFits reach) (λ l. IsSorted (read_literal flow.file.ghosts x owner names (negation l) ∷ [])) (λ l h. (negation_sorted l h, tt)) c.literals literals_fit)

  -- ---- premises

  escapes_sorted : (makes : Bool) (t : NodeTerm) → IsTerm t → IsSorted (escapes makes t)
  escapes_sorted true t h = (h, (h, tt))
  escapes_sorted false t h = (h, tt)

  tuples_nodes : (n : ℕ) (ts : List NodeTerm) → Each IsTerm ts → Each (Each IsTerm) (tuples n ts)
  tuples_nodes zero ts h = (tt, tt)
  tuples_nodes (suc n) ts h = each_flat (Each IsTerm) (λ t. map (λ rest. t ∷ rest) (tuples n ts)) ts
      (each_so IsTerm (λ t. Each (Each IsTerm) (map (λ rest. t ∷ rest) (tuples n ts)))
      (λ t is. each_map (Each IsTerm) (λ rest. t ∷ rest) (tuples n ts) (each_so (Each IsTerm) (λ rest. Each IsTerm (t ∷ rest)) (λ rest are. (is, are)) (tuples n ts) (tuples_nodes n ts h))) ts h)

  instance_sorted : (owner : Bool) (c : Clause) → Readable owner c → (names : List NodeTerm) → Each IsTerm names → IsSorted (instance_at flow.file.ghosts s.makes owner c.literals names)
  instance_sorted owner c r names are =
      each_both OneSort (flat_map (escapes s.makes) names) (map (read_literal flow.file.ghosts start owner names) c.literals)
      (each_flat OneSort (escapes s.makes) names (each_so IsTerm (λ t. IsSorted (escapes s.makes t)) (escapes_sorted s.makes) names are))
      (literals_sorted start nothing_yet owner c r names are)

  instances_sorted : (owner : Bool) (c : Clause) → Readable owner c → AreSorted (instances flow.file.ghosts s owner c)
  instances_sorted owner c r =
      each_map IsSorted (instance_at flow.file.ghosts s.makes owner c.literals) (tuples (length c.bound.names) s.instances)
      (each_so (Each IsTerm) (λ names. IsSorted (instance_at flow.file.ghosts s.makes owner c.literals names)) (instance_sorted owner c r) (tuples (length c.bound.names) s.instances)
      (tuples_nodes (length c.bound.names) s.instances (each_of_all IsTerm s.instances fit.instances)))

  pub all_instances_sorted : (owner : Bool) (cs : List Clause) → Each (Readable owner) cs → AreSorted (flat_map (instances flow.file.ghosts s owner) cs)
  all_instances_sorted owner cs h = each_flat IsSorted (instances flow.file.ghosts s owner) cs (each_so (Readable owner) (λ c. AreSorted (instances flow.file.ghosts s owner c)) (instances_sorted owner) cs h)

  -- ---- the executed part

  keeps_given : (x : Execution) (p c : Symbol) (loads : ℕ) → Keeps x → sort c ≡ sort p → Keeps (given x p c loads)
  keeps_given x p c loads keeps h z = ap sort (current_given x p c z loads) ∙ go (same_symbol p z) refl
    where
      go : (b : Bool) → same_symbol p z ≡ b → sort (if b then c else current x z) ≡ sort z
      go true e = h ∙ ap sort (same_symbol_true p z e)
      go false e = keeps z

  -- what is read from here on has these sorts
  abbrev pub LoadsAgree : Execution → List Act → Type 0
  LoadsAgree x more = (j : ℕ) → slice_get (loads_of s.acts) (x.loads + j) ≡ slice_get (loads_of more) j

  load_now : (x : Execution) (a : Act) (pointer : Bool) (more : List Act) → loads_of (a ∷ more) ≡ pointer ∷ loads_of more
      → LoadsAgree x (a ∷ more) → sort (symbols.Loaded x.loads) ≡ pointer_sort pointer
  load_now x a pointer more is agree =
      ap (λ n. load_sort (slice_get (loads_of s.acts) n)) (let same : x.loads ≡ x.loads + 0 = omega arith in same)
      ∙ ap load_sort (agree 0 ∙ ap (λ bs. slice_get bs 0) is)

  next_loads : (x : Execution) (a : Act) (pointer : Bool) (more : List Act) → loads_of (a ∷ more) ≡ pointer ∷ loads_of more
      → LoadsAgree x (a ∷ more) → (j : ℕ) → slice_get (loads_of s.acts) (x.loads + 1 + j) ≡ slice_get (loads_of more) j
  next_loads x a pointer more is agree j =
      ap (slice_get (loads_of s.acts)) (let same : x.loads + 1 + j ≡ x.loads + suc j = omega arith in same)
      ∙ agree (suc j) ∙ ap (λ bs. slice_get bs (suc j)) is

  loads_after : (x : Execution) (a : Act) (more : List Act) → LoadsAgree x (a ∷ more) → LoadsAgree (after x a) more
  loads_after x (Assign p e) more agree = agree
  loads_after x (Make p) more agree = agree
  loads_after x (Fetch p q f pointer) more agree = next_loads x (Fetch p q f pointer) pointer more refl agree
  loads_after x (FetchMarked p q f) more agree = next_loads x (FetchMarked p q f) true more refl agree
  loads_after x (Update checked m p e) more agree = agree
  loads_after x (Test a b equal) more agree = agree
  loads_after x (Differ a b) more agree = agree
  loads_after x Skip more agree = agree

  keeps_after : (x : Execution) (a : Act) (more : List Act) → ActFits flow.file sort a → LoadsAgree x (a ∷ more)
      → Keeps x → Keeps (after x a)
  keeps_after x (Assign p e) more h agree keeps = keeps_given x p (current x e) x.loads keeps (keeps e ∙ sym h)
  keeps_after x (Make p) more h agree keeps = keeps_given x p symbols.New x.loads keeps (sym h)
  keeps_after x (Fetch p q f pointer) more h agree keeps =
      keeps_given x p (symbols.Loaded x.loads) (x.loads + 1) keeps
      (load_now x (Fetch p q f pointer) pointer more refl agree ∙ sym h.1)
  keeps_after x (FetchMarked p q f) more h agree keeps =
      let mark = symbols.MarkLoaded x.loads in
      subst Keeps (sym (marked_fetch x p q f))
      (keeps_given (given x (mark_of p) mark x.loads) p (symbols.Loaded x.loads) (x.loads + 1)
      (keeps_given x (mark_of p) mark x.loads keeps (sym h.2))
      (load_now x (FetchMarked p q f) true more refl agree ∙ sym h.1))
  keeps_after x (Update checked m p e) more h agree keeps = keeps
  keeps_after x (Test a b equal) more h agree keeps = keeps
  keeps_after x (Differ a b) more h agree keeps = keeps
  keeps_after x Skip more h agree keeps = keeps

  if_checked_sorted : (b : Bool) (c : List SymbolicLit) → IsSorted c → AreSorted (if_checked b c)
  if_checked_sorted true c h = (h, tt)
  if_checked_sorted false c h = tt

  test_sorted : (equal : Bool) (a b : Symbol) → sort a ≡ sort b → IsSorted (test_lit equal (Constant a) (Constant b) ∷ [])
  test_sorted true a b h = (h, tt)
  test_sorted false a b h = (h, tt)

  act_sorted : (x : Execution) (a : Act) (more : List Act) → ActFits flow.file sort a → LoadsAgree x (a ∷ more) → Keeps x → AreSorted (act_clauses s.nodes x a)
  act_sorted x (Assign p e) more h agree keeps = tt
  act_sorted x (Make p) more h agree keeps = tt
  act_sorted x (Fetch p q f pointer) more h agree keeps = ((keeps q ∙ h.0, tt), ((load_now x (Fetch p q f pointer) pointer more refl agree ∙ sym h.2, tt), tt))
  act_sorted x (FetchMarked p q f) more h agree keeps = (
    (keeps q ∙ h.0, tt),
    ((load_now x (FetchMarked p q f) true more refl agree ∙ sym h.3, tt), ((refl, tt), tt)),
  )
  act_sorted x (Update checked m p e) more h agree keeps =
      each_both IsSorted (if_checked checked (not_null x p)) (flat_map (update_at m (version x m) (held x p) (held x e)) s.nodes)
      (if_checked_sorted checked (not_null x p) (keeps p ∙ h.0, tt))
      (each_flat IsSorted (update_at m (version x m) (held x p) (held x e)) s.nodes
      (each_so IsTerm (λ n. AreSorted (update_at m (version x m) (held x p) (held x e) n))
      (λ n is. ((is ∙ sym (keeps p ∙ h.0), (sym (keeps e ∙ h.1), tt)), ((is ∙ sym (keeps p ∙ h.0), (refl, tt)), tt))) s.nodes (each_of_all IsTerm s.nodes fit.nodes)))
  act_sorted x (Test a b equal) more h agree keeps = (test_sorted equal (current x a) (current x b) (keeps a ∙ h ∙ sym (keeps b)), tt)
  act_sorted x (Differ a b) more h agree keeps =
      let nodes = keeps a ∙ h.0 ∙ sym (keeps b) in
      let marks = keeps (mark_of a) ∙ h.1 ∙ sym (keeps (mark_of b)) in
      ((nodes, (marks, tt)), tt)
  act_sorted x Skip more h agree keeps = tt

  executed_sorted : (x : Execution) (more : List Act) → Each (ActFits flow.file sort) more → LoadsAgree x more → Keeps x → AreSorted (executed_clauses s.nodes x more)
  executed_sorted x [] h agree keeps = tt
  executed_sorted x (a ∷ more) h agree keeps =
      each_both IsSorted (act_clauses s.nodes x a) (executed_clauses s.nodes (after x a) more) (act_sorted x a more h.0 agree keeps)
      (executed_sorted (after x a) more h.1 (loads_after x a more agree) (keeps_after x a more h.0 agree keeps))

  keeps_after_all : (x : Execution) (more : List Act) → Each (ActFits flow.file sort) more → LoadsAgree x more → Keeps x → Keeps (after_all x more)
  keeps_after_all x [] h agree keeps = keeps
  keeps_after_all x (a ∷ more) h agree keeps = keeps_after_all (after x a) more h.1 (loads_after x a more agree) (keeps_after x a more h.0 agree keeps)

  from_start : LoadsAgree start s.acts
  from_start j = ap (slice_get (loads_of s.acts)) (let same : 0 + j ≡ j = omega arith in same)

  pub all_executed_sorted : Each (ActFits flow.file sort) s.acts → AreSorted (executed_clauses s.nodes start s.acts)
  all_executed_sorted h = executed_sorted start s.acts h from_start nothing_yet

  pub keeps_at_last : Each (ActFits flow.file sort) s.acts → Keeps (after_all start s.acts)
  keeps_at_last h = keeps_after_all start s.acts h from_start nothing_yet

  -- ---- the negated conclusion

  bound_are_nodes : (n : ℕ) → Each IsTerm (bound_nodes n)
  bound_are_nodes n = each_map IsTerm (λ i. At (symbols.Bound i)) (below n) (each_all (λ i. IsTerm (At (symbols.Bound i))) (λ i. refl) (below n))

  abbrev pub MayBeReadable : Option Clause → Type 0
  MayBeReadable None = Unit {0}
  MayBeReadable (Some c) = Readable s.owned c

  pub denied_sorted : (x : Execution) → Keeps x → (c : Option Clause) → MayBeReadable c → AreSorted (denied_clause flow.file.ghosts s x c)
  denied_sorted x keeps None r = tt
  denied_sorted x keeps (Some c) r =
      each_both IsSorted (map (λ i. is_not (Constant (symbols.Bound i)) null ∷ []) (below (length c.bound.names)))
      (map (λ l. read_literal flow.file.ghosts x s.owned (bound_nodes (length c.bound.names)) (negation l) ∷ []) c.literals)
      (each_map IsSorted (λ i. is_not (Constant (symbols.Bound i)) null ∷ []) (below (length c.bound.names))
      (each_all (λ i. IsSorted (is_not (Constant (symbols.Bound i)) null ∷ [])) (λ i. (refl, tt)) (below (length c.bound.names))))
      (negations_sorted x keeps s.owned c r (bound_nodes (length c.bound.names)) (bound_are_nodes (length c.bound.names)))

  pointer_is_node : (p : Var) → sort (pointer_symbol s.mine p) ≡ sorts.Node
  pointer_is_node (vars.Shared i) = refl
  pointer_is_node (vars.Local v) = go (slice_get s.mine.pointers v) refl
    where
      go : (c : Option Symbol) → slice_get s.mine.pointers v ≡ c → sort (unwrap_or c symbols.Null) ≡ sorts.Node
      go None is = refl
      go (Some c) is = each_get (λ c. sort c ≡ sorts.Node) s.mine.pointers (each_of_all (λ c. sort c ≡ sorts.Node) s.mine.pointers fit.mine.pointers) v c is

  pub claim_sorted : (x : Execution) → Keeps x → (k : Option Primitive) → AreSorted (denied_claim s x k)
  claim_sorted x keeps (Some (prims.Active p)) = ((keeps (pointer_symbol s.mine p) ∙ pointer_is_node p, tt), ((refl, tt), tt))
  claim_sorted x keeps _ = tt
