-- An outline that has a meaning fits its file.
use Rattle.std.proofs.Common.{IfSome, ◌≡◌, ◌==◌, ℕ, suc, ◌+◌, ◌≤◌, ◌<◌, Bool, true, false, ◌||◌, if◌then◌else◌, Option, Some, None, Result, Ok, Err, List, [], ◌∷◌, ◌++◌, length, slice_get, All, refl, sym, ◌∙◌, ap, subst, arith}
use Rattle.std.specs.List.{position_from}
use Rattle.std.specs.Str.{bytes_eq}
use Rattle.std.proofs.lemmas.Bool.{eqb-true}
use Rattle.std.proofs.lemmas.List.{length-append}
use Rattle.std.proofs.lemmas.Option.{slice_get_within, IfSome_then}
use Rattle.std.proofs.lemmas.List.Elements.{All-nil, All-cons, All-append, All-push}
use Rattle.std.proofs.lemmas.List.Quantifiers.{position-Some}
use Rattle.plc_base.specs.Limits.{most}
use Rattle.plc_base.specs.declared.limits.What1.TheVariants as limits
use Rattle.plc_base.specs.Names.{NameList, place_of}
use Rattle.plc_base.specs.declared.ids.FieldId.{FieldId}
use Rattle.plc_lang.specs.declared.syntax.Local.{Local}
use Rattle.plc_lang.specs.declared.syntax.Op.{Op}
use Rattle.plc_lang.specs.declared.syntax.File.{File}
use Rattle.plc_syntax.specs.Trees.{Text, Placed, PlaceOf, TermTree, PlaceTerm, NullTerm, NumberTerm, MeTerm, NoneTerm, PlaceTree, FlagTree, RetiredFlag, MarkedFlag, LiteralTree, FlagLiteral, NotLiteral, EqualityLiteral, BoundTree, NoBound, AllOf, ClauseTree, Claims, ItemTree, InvariantItem, OverItem, AtItem, OutlineTree, Outlined}
use Rattle.plc_scope.specs.declared.fault.ParseFault.{ParseFault}
use Rattle.plc_scope.specs.declared.fault.ParseFault.TheVariants as faults
use Rattle.plc_scope.specs.declared.scope.Scope.{Scope}
use Rattle.plc_scope.specs.declared.binding.Binding.{Binding}
use Rattle.plc_scope.specs.declared.binding.Binding.TheVariants.{Taken, Shared, PointerField, DataField, Function, Auxiliary, Value, LocalOnly}
use Rattle.plc_scope.specs.Scope.{known, if_fits, if_new, with_last}
use Rattle.plc_scope.proofs.Finds.{if_some, position_passes, made_is}
use Rattle.plc_scope.proofs.Holds.{Has, next, any, has_along, below, known_has}
use Rattle.plc_logic.specs.declared.clause.Base.{Base}
use Rattle.plc_logic.specs.declared.clause.Base.TheVariants as bases
use Rattle.plc_logic.specs.declared.clause.Term.{Term}
use Rattle.plc_logic.specs.declared.clause.Sort.{Sort}
use Rattle.plc_logic.specs.declared.clause.Sort.TheVariants as sorts
use Rattle.plc_logic.specs.Sorts.{same_sort}
use Rattle.plc_logic.proofs.Sorts.{same_sort_true}
use Rattle.plc_logic.specs.declared.clause.Literal.{Literal}
use Rattle.plc_logic.specs.declared.clause.Clause.{Clause}
use Rattle.plc_logic.specs.declared.clause.Site.{Site}
use Rattle.plc_logic.specs.declared.clause.Site.TheVariants.{Over, At}
use Rattle.plc_logic.specs.declared.clause.Item.{Item}
use Rattle.plc_logic.specs.Fit.{InReach, IsNode, HasSort, HoldsPointer, pointer_sort, ghost_sort, LiteralFits, ClauseFits, InvariantFits, LabelsFit, SiteFits, ItemFits, OutlineFits}
use Rattle.plc_lang.specs.Labels.{block_labels, labels_by_op, has_label, op_of_label}
use Rattle.plc_outparse.specs.declared.kind.Kind.{Kind}
use Rattle.plc_outparse.specs.declared.kind.Kind.TheVariants as kinds
use Rattle.plc_outparse.specs.Fit.{holds_threads, NamesOf, OutlinesFit}
use Rattle.plc_outparse.specs.Reach.{Reach, auxiliary_sort, binding_kind, local_kind, kind_found, declared_kind, kind_or_bound, kind_of, kind_at, as_base, base_at, base_term, base_pointer, as_pointer, as_term, as_field, as_pointer_field}
use Rattle.plc_scope.specs.Limits.{stands_at}
use Rattle.plc_lang.specs.Locals.{locals_or_none, locals_of}
use Rattle.plc_outparse.specs.Meaning.{in_turn, me_means, term_means, sort_place, second_means, pointer_means, flag_means, literal_means, counted, literal_step, none_bound, if_free, bound_with, second_bound, bound_means, reach, clause_means, op_named, op_at, label_named, with_op, label_at, if_same_op, label_step, labels_mean, Parts, item_step, depth_means, outline_means}

fitting : {A : Type 0} (P : A → Type 0) (at : ℕ) (o : Option A) → IfSome o P → Has P (if_fits at o)
fitting P at (Some x) h = h
fitting P at None h = tt

-- a list after no other
pub at_start : {A : Type 0} (xs : List A) (k : ℕ) (x : A) → slice_get xs k ≡ Some x → slice_get xs (0 + k) ≡ Some x
at_start xs k x e = let same : 0 + k ≡ k = omega arith in ap (slice_get xs) same ∙ e

turns : {S X : Type 0} (P : S → Type 0) (step : S → X → Result S ParseFault) → ((s : S) (x : X) → P s → Has P (step s x)) → (s : S) (xs : List X) → P s → Has P (in_turn step s xs)
turns P step keeps s [] h = h
turns P step keeps s (x ∷ xs) h = next P P (step s x) _ (keeps s x h) (λ t k. turns P step keeps t xs k)

-- ---- names

-- what is known of a name
abbrev KindFits : InReach → Kind → Type 0
KindFits w (kinds.Node b) = IsNode w b
KindFits w (kinds.Data i) = (l : Local) × (slice_get w.locals i ≡ Some l) × (l.pointer ≡ false)
KindFits w (kinds.Field f s) = (d : _) × (slice_get w.file.fields f.0 ≡ Some d) × (s ≡ pointer_sort d.pointer)
KindFits w (kinds.Auxiliary g s) = (h : _) × (slice_get w.file.ghosts g ≡ Some h) × (s ≡ ghost_sort g h.values)
KindFits w (kinds.Value g v) = (h : _) × (slice_get w.file.ghosts g ≡ Some h) × (v < length h.values)
KindFits w kinds.NoValue = Unit {0}

ghost_sorts : (g : ℕ) (t : Bool) (vs : List ℕ) → t ≡ holds_threads vs → auxiliary_sort g t ≡ ghost_sort g vs
ghost_sorts g t [] e = ap (auxiliary_sort g) e
ghost_sorts g t (v ∷ vs) e = ap (auxiliary_sort g) e

local_fits : (w : InReach) (i : ℕ) (l : Local) (b : Bool) → l.pointer ≡ b → slice_get w.locals i ≡ Some l → KindFits w (local_kind i b)
local_fits w i l true p e = (l, e, p)
local_fits w i l false p e = (l, e, p)

binding_fits : (w : InReach) (s : Scope) → NamesOf s w.file → (i : ℕ) (b : Binding) → slice_get s.bindings i ≡ Some b → IfSome (binding_kind b) (KindFits w)
binding_fits w s names i Taken e = tt
binding_fits w s names i (Shared k) e = names.shared i k e
binding_fits w s names i (PointerField f) e = let d = names.pointer_field i f e in (d.0, d.1, ap pointer_sort (sym d.2))
binding_fits w s names i (DataField f) e = let d = names.data_field i f e in (d.0, d.1, ap pointer_sort (sym d.2))
binding_fits w s names i (Function f p) e = tt
binding_fits w s names i (Auxiliary g t) e = let h = names.auxiliary i g t e in (h.0, h.1, ghost_sorts g t h.0.values h.2)
binding_fits w s names i (Value g v) e = names.value i g v e
binding_fits w s names i LocalOnly e = tt

declared_fits : (w : InReach) (s : Scope) → NamesOf s w.file → (name : Text) → IfSome (declared_kind s w.locals name) (KindFits w)
unfolding declared_kind
declared_fits w s names name =
    made_is kind_found (KindFits w) s w.locals name (λ n i l at there same. local_fits w i l l.pointer refl there) (λ n b at there. binding_fits w s names n b there)

-- a place in a list is below its length
place_below : (name : Text) (names : List Text) (i : ℕ) → place_of name names ≡ Some i → i < length names
place_below name names i e = (position-Some (bytes_eq name) names i name e).0

bound_fits : (w : InReach) (o : Option ℕ) (k : Option Kind) → ((i : ℕ) → o ≡ Some i → i < w.bound) → IfSome k (KindFits w) → IfSome (kind_or_bound o k) (KindFits w)
bound_fits w (Some i) k h g = h i refl
bound_fits w None k h g = g

-- what is in reach stands for words of the file
abbrev words : File → Reach → InReach
words file r = record { file = file; locals = r.locals; in_operation = r.in_operation; bound = length r.bound.names }

module _ (file : File) (r : Reach) (names : NamesOf r.scope file) where
  abbrev w : InReach
  w = words file r

  kind_fits : (name : Text) → IfSome (kind_of r name) (KindFits w)
  unfolding kind_of
  kind_fits name = bound_fits w (place_of name r.bound.names) (declared_kind r.scope r.locals name) (place_below name r.bound.names) (declared_fits w r.scope names name)

  base_fits : (k : Kind) → KindFits w k → IfSome (as_base k) (IsNode w)
  base_fits (kinds.Node b) h = h
  base_fits (kinds.Data i) h = tt
  base_fits (kinds.Field f s) h = tt
  base_fits (kinds.Auxiliary g s) h = tt
  base_fits (kinds.Value g v) h = tt
  base_fits kinds.NoValue h = tt

  kind_is_fit : (n : Placed Text) → Has (KindFits w) (kind_at r n)
  kind_is_fit n = known_has (KindFits w) n.at (kind_of r n.value) (kind_fits n.value)

  base_is_node : (n : Placed Text) → Has (IsNode w) (base_at r n)
  unfolding base_at
  base_is_node n = next (KindFits w) (IsNode w) (kind_at r n) _ (kind_is_fit n) (λ k h. fitting (IsNode w) n.at (as_base k) (base_fits k h))

  -- ---- terms

  -- a term has its sort
  abbrev Sorted : Term × Sort → Type 0
  Sorted t = HasSort w t.0 t.1

  node_sorted : (b : Base) → IsNode w b → HasSort w (base_term b) sorts.Node
  node_sorted (bases.Shared i) h = (h, refl)
  node_sorted (bases.Local i) h = (h.0, h.1, ap pointer_sort (sym h.2))
  node_sorted (bases.Bound i) h = (h, refl)

  alone_sorted : (k : Kind) → KindFits w k → IfSome (as_term k) Sorted
  alone_sorted (kinds.Node b) h = node_sorted b h
  alone_sorted (kinds.Data i) h = (h.0, h.1, ap pointer_sort (sym h.2))
  alone_sorted (kinds.Field f s) h = tt
  alone_sorted (kinds.Auxiliary g s) h = tt
  alone_sorted (kinds.Value g v) h = (h.0, h.1, h.2, refl)
  alone_sorted kinds.NoValue h = tt

  field_sorted : (b : Base) (k : Kind) → IsNode w b → KindFits w k → IfSome (as_field b k) Sorted
  field_sorted b (kinds.Node c) n h = tt
  field_sorted b (kinds.Data i) n h = tt
  field_sorted b (kinds.Field f s) n h = (n, h.0, h.1, h.2)
  field_sorted b (kinds.Auxiliary g s) n h = (n, h.0, h.1, h.2)
  field_sorted b (kinds.Value g v) n h = tt
  field_sorted b kinds.NoValue n h = tt

  me_sorted : (b : Bool) (at : ℕ) → r.in_operation ≡ b → Has Sorted (me_means b at)
  me_sorted true at e = (e, refl)
  me_sorted false at e = tt

  term_sorted : (t : TermTree) → Has Sorted (term_means r t)
  unfolding term_means
  term_sorted (PlaceTerm (PlaceOf n None)) =
      next (KindFits w) Sorted (kind_at r n) _ (kind_is_fit n) (λ k h. fitting Sorted n.at (as_term k) (alone_sorted k h))
  term_sorted (PlaceTerm (PlaceOf n (Some f))) =
      next (IsNode w) Sorted (base_at r n) _ (base_is_node n) (λ b node.
      next (KindFits w) Sorted (kind_at r f) _ (kind_is_fit f) (λ k h. fitting Sorted f.at (as_field b k) (field_sorted b k node h)))
  term_sorted (NullTerm at) = refl
  term_sorted (NumberTerm n) = refl
  term_sorted (MeTerm at) = me_sorted r.in_operation at refl
  term_sorted (NoneTerm at) = refl

  if_sorted : (wanted : Sort) (at : ℕ) (t : Term × Sort) (b : Bool) → same_sort t.1 wanted ≡ b → Sorted t → Has (λ x. HasSort w x wanted) (if b then Ok t.0 else Err (faults.WrongSort at))
  if_sorted wanted at t true e h = subst (HasSort w t.0) (same_sort_true t.1 wanted e) h
  if_sorted wanted at t false e h = tt

  second_sorted : (wanted : Sort) (t : TermTree) → Has (λ x. HasSort w x wanted) (second_means r wanted t)
  unfolding second_means
  second_sorted wanted t = next Sorted (λ x. HasSort w x wanted) (term_means r t) _ (term_sorted t) (λ x h. if_sorted wanted (sort_place t) x (same_sort x.1 wanted) refl h)

  -- ---- literals

  base_holds : (b : Base) → IsNode w b → IfSome (base_pointer b) (HoldsPointer w)
  base_holds (bases.Shared i) h = h
  base_holds (bases.Local i) h = h
  base_holds (bases.Bound i) h = tt

  alone_holds : (k : Kind) → KindFits w k → IfSome (as_pointer k) (HoldsPointer w)
  alone_holds (kinds.Node b) h = base_holds b h
  alone_holds (kinds.Data i) h = tt
  alone_holds (kinds.Field f s) h = tt
  alone_holds (kinds.Auxiliary g s) h = tt
  alone_holds (kinds.Value g v) h = tt
  alone_holds kinds.NoValue h = tt

  holds_nodes : (p : Bool) → sorts.Node ≡ pointer_sort p → p ≡ true
  holds_nodes true e = refl
  holds_nodes false e = cc

  sort_holds : (b : Base) (f : FieldId) (s : Sort) → IsNode w b → KindFits w (kinds.Field f s)
      → IfSome (as_pointer_field b (kinds.Field f s)) (HoldsPointer w)
  sort_holds b f sorts.Node n h = (n, h.0, h.1, holds_nodes h.0.pointer h.2)
  sort_holds b f sorts.Number n h = tt
  sort_holds b f sorts.Thread n h = tt
  sort_holds b f (sorts.Value g) n h = tt
  sort_holds b f sorts.Truth n h = tt

  field_holds : (b : Base) (k : Kind) → IsNode w b → KindFits w k → IfSome (as_pointer_field b k) (HoldsPointer w)
  field_holds b (kinds.Node c) n h = tt
  field_holds b (kinds.Data i) n h = tt
  field_holds b (kinds.Field f s) n h = sort_holds b f s n h
  field_holds b (kinds.Auxiliary g s) n h = tt
  field_holds b (kinds.Value g v) n h = tt
  field_holds b kinds.NoValue n h = tt

  pointer_holds : (p : PlaceTree) → Has (HoldsPointer w) (pointer_means r p)
  pointer_holds (PlaceOf n None) =
      next (KindFits w) (HoldsPointer w) (kind_at r n) _ (kind_is_fit n)
      (λ k h. fitting (HoldsPointer w) n.at (as_pointer k) (alone_holds k h))
  pointer_holds (PlaceOf n (Some f)) =
      next (IsNode w) (HoldsPointer w) (base_at r n) _ (base_is_node n) (λ b node.
      next (KindFits w) (HoldsPointer w) (kind_at r f) _ (kind_is_fit f)
      (λ k h. fitting (HoldsPointer w) f.at (as_pointer_field b k) (field_holds b k node h)))

  flag_fits : (is_so : Bool) (f : FlagTree) → Has (LiteralFits w) (flag_means r is_so f)
  flag_fits is_so (RetiredFlag n) = next (IsNode w) (LiteralFits w) (base_at r n) _ (base_is_node n) (λ b h. h)
  flag_fits is_so (MarkedFlag p) =
      next (HoldsPointer w) (LiteralFits w) (pointer_means r p) _ (pointer_holds p) (λ t h. h)

  literal_fits : (l : LiteralTree) → Has (LiteralFits w) (literal_means r l)
  unfolding literal_means
  literal_fits (FlagLiteral f) = flag_fits true f
  literal_fits (NotLiteral f) = flag_fits false f
  literal_fits (EqualityLiteral a e b) =
      next Sorted (LiteralFits w) (term_means r a) _ (term_sorted a) (λ x h.
      next (λ y. HasSort w y x.1) (LiteralFits w) (second_means r x.1 b) _ (second_sorted x.1 b) (λ y k. (x.1, h, k)))

  record CountedFits (n : ℕ) (l : Literal) : Type 0 where
    fewer : n < most limits.Literals
    fits : LiteralFits w l

  no_literal : (n : ℕ) (b c : Bool) (e f g : ParseFault) → Has (CountedFits n) (if b then Err e else (if c then Err f else Err g))
  no_literal n true c e f g = tt
  no_literal n false true e f g = tt
  no_literal n false false e f g = tt

  counted_fits : (n at : ℕ) (m : Result Literal ParseFault) → n ≤ most limits.Literals → Has (LiteralFits w) m → Has (CountedFits n) (counted n at m)
  counted_fits n at (Ok l) le h = below (CountedFits n) n (most limits.Literals) _ (Ok l) le (λ less. record { fewer = less; fits = h })
  counted_fits n at (Err e) le h = no_literal n (stands_at at e) (n == most limits.Literals) _ _ _

  record LiteralsFit (ls : List Literal) : Type 0 where
    some : 0 < length ls
    count : length ls ≤ most limits.Literals
    each : All (LiteralFits w) ls

  step_fits : (ls : List Literal) (l : Placed LiteralTree) → LiteralsFit ls → Has LiteralsFit (literal_step r ls l)
  unfolding literal_step
  step_fits ls l h = next (CountedFits (length ls)) LiteralsFit (counted (length ls) l.at (literal_means r l.value)) _ (counted_fits (length ls) l.at (literal_means r l.value) h.count (literal_fits l.value)) (λ x k.
      let count = length-append ls (x ∷ []) in
      record { some = omega arith; count = omega (arith, k.fewer); each = All-append (LiteralFits w) ls (x ∷ []) h.each (All-cons (LiteralFits w) x [] k.fits (All-nil (LiteralFits w))) })

  first_fits : (x : Literal) → LiteralFits w x → LiteralsFit (x ∷ [])
  first_fits x h = record { some = omega arith; count = omega arith; each = All-cons (LiteralFits w) x [] h (All-nil (LiteralFits w)) }

-- ---- clauses

-- at most so many quantified names
abbrev AtMost : ℕ → NameList → Type 0
AtMost n bound = length bound.names ≤ n

new_bound : (n at : ℕ) (bound : NameList) (name : Text) (o : Option ℕ) → AtMost n bound → Has (AtMost (n + 1)) (if_new o at (with_last bound name))
new_bound n at bound name None h = let count = length-append bound.names (name ∷ []) in omega arith
new_bound n at bound name (Some i) h = tt

free_bound : (n at : ℕ) (bound : NameList) (name : Text) (k : Option Kind) → AtMost n bound → Has (AtMost (n + 1)) (if_free at k (if_new (place_of name bound.names) at (with_last bound name)))
free_bound n at bound name None h = new_bound n at bound name (place_of name bound.names) h
free_bound n at bound name (Some k) h = tt

bound_few : (s : Scope) (ls : List Local) (n : ℕ) (bound : NameList) (name : Placed Text) → AtMost n bound → Has (AtMost (n + 1)) (bound_with s ls bound name)
unfolding bound_with
bound_few s ls n bound name h = free_bound n name.at bound name.value (declared_kind s ls name.value) h

second_few : (s : Scope) (ls : List Local) (bound : NameList) (m : Option (Placed Text)) → AtMost 1 bound → Has (AtMost 2) (second_bound s ls bound m)
second_few s ls bound None h = omega arith
second_few s ls bound (Some m) h = bound_few s ls 1 bound m h

all_bound_few : (s : Scope) (ls : List Local) (b : BoundTree) → Has (AtMost 2) (bound_means s ls b)
unfolding bound_means
all_bound_few s ls NoBound = omega arith
all_bound_few s ls (AllOf n m) = next (AtMost 1) (AtMost 2) (bound_with s ls none_bound n) _ (bound_few s ls 0 none_bound n (omega arith)) (λ bound h. second_few s ls bound m h)

module _ (file : File) (s : Scope) (names : NamesOf s file) where
  clause_fits : (ls : List Local) (in_operation : Bool) (c : ClauseTree) → Has (ClauseFits file ls in_operation) (clause_means s ls in_operation c)
  unfolding clause_means
  clause_fits ls in_operation (Claims b l others) =
      next (AtMost 2) (ClauseFits file ls in_operation) (bound_means s ls b) _ (all_bound_few s ls b) (λ bound few.
      let here = reach s ls in_operation bound in
      next (LiteralFits (words file here)) (ClauseFits file ls in_operation) (literal_means here l) _ (literal_fits file here names l) (λ first fits.
      next (LiteralsFit file here names) (ClauseFits file ls in_operation) (in_turn (literal_step here) (first ∷ []) others) _
      (turns (LiteralsFit file here names) (literal_step here) (step_fits file here names) (first ∷ []) others (first_fits file here names first fits)) (λ all h.
      record { bound = few; some = h.some; literals = h.count; each = h.each })))

  -- ---- sites

  -- an operation that is there
  abbrev IsOp : ℕ → Type 0
  IsOp k = (op : Op) × (slice_get file.ops k ≡ Some op)

  named_op : (o : Option ℕ) → IfSome (op_named file.ops o) IsOp
  named_op None = tt
  named_op (Some i) = IfSome_then (position_from (λ (o : Op). o.name == i) 0 file.ops) (position_passes (λ (o : Op). o.name == i) file.ops) (λ k at. (at.0, at.1))

  op_is_there : (n : Placed Text) → Has IsOp (op_at s file.ops n)
  unfolding op_at
  op_is_there n = any IsOp (known n.at (declared_kind s [] n.value)) _ (λ k. fitting IsOp n.at (op_named file.ops (place_of n.value s.names.names)) (named_op (place_of n.value s.names.names)))

  -- an operation whose statements have a label is there
  home : (label i : ℕ) (os : List Op) → ((j : ℕ) (o : Op) → slice_get os j ≡ Some o → slice_get file.ops (i + j) ≡ Some o) → IfSome (position_from (has_label label) i (labels_by_op os)) IsOp
  home label i [] h = tt
  home label i (o ∷ os) h =
      let here : i + 0 ≡ i = omega arith in
      if_some IsOp (has_label label (block_labels o.body)) i (position_from (has_label label) (i + 1) (labels_by_op os)) (λ is. (o, ap (slice_get file.ops) (sym here) ∙ h 0 o refl))
      (home label (i + 1) os (λ j x e. let there : i + 1 + j ≡ i + suc j = omega arith in ap (slice_get file.ops) there ∙ h (suc j) x e))

  -- a label of the file
  abbrev IsKnown : ℕ → Type 0
  IsKnown label = label < length file.labels

  -- a label's operation
  abbrev IsWithin : ℕ → ℕ → Type 0
  IsWithin k label = op_of_label (labels_by_op file.ops) label ≡ Some k

  -- a label of the file that stands in an operation
  record StandsIn (k label : ℕ) : Type 0 where
    known : IsKnown label
    within : IsWithin k label

  both : (P : ℕ → Type 0) (o : Option ℕ) → IfSome o P → IfSome o (λ k. (o ≡ Some k) × P k)
  both P (Some k) h = (refl, h)
  both P None h = tt

  -- with its operation, which is there
  abbrev IsLabel : ℕ × ℕ → Type 0
  IsLabel l = StandsIn l.1 l.0 × IsOp l.1

  label_stands : (label at : ℕ) → IsKnown label → Has IsLabel (with_op (labels_by_op file.ops) at label)
  label_stands label at is =
      let op = op_of_label (labels_by_op file.ops) label in
      next (λ k. (op ≡ Some k) × IsOp k) IsLabel (if_fits at op) _ (fitting (λ k. (op ≡ Some k) × IsOp k) at op (both IsOp op (home label 0 file.ops (at_start file.ops)))) (λ k h. (record { known = is; within = h.0 }, h.1))

  -- a label that is among those of the scope
  abbrev Among : ℕ → Type 0
  Among label = (name : ℕ) × (slice_get s.labels label ≡ Some name)

  named_label : (o : Option ℕ) → IfSome (label_named s.labels o) Among
  named_label None = tt
  named_label (Some i) = IfSome_then (position_from (λ (n : ℕ). n == i) 0 s.labels) (position_passes (λ (n : ℕ). n == i) s.labels) (λ k at. (at.0, at.1))

  label_is_there : (n : Placed Text) → Has IsLabel (label_at s (labels_by_op file.ops) n)
  unfolding label_at
  label_is_there n =
      let label = label_named s.labels (place_of n.value s.names.names) in
      any IsLabel (known n.at (declared_kind s [] n.value)) _ (λ k.
      next Among IsLabel (if_fits n.at label) _ (fitting Among n.at label (named_label (place_of n.value s.names.names))) (λ l is.
      label_stands l n.at (subst (λ (labels : List ℕ). l < length labels) names.labels (slice_get_within s.labels l is.0 is.1))))

  -- all labels stand in one operation
  abbrev Together : ℕ → List ℕ → Type 0
  Together k labels = LabelsFit file labels k

  same_op : (k at : ℕ) (l : ℕ × ℕ) (b : Bool) → (l.1 == k) ≡ b → IsLabel l → Has (StandsIn k) (if b then Ok l.0 else Err (faults.WrongSort at))
  same_op k at l true e h = subst (λ (n : ℕ). StandsIn n l.0) (eqb-true l.1 k e) h.0
  same_op k at l false e h = tt

  one_label : (k label : ℕ) → StandsIn k label → Together k (label ∷ [])
  one_label k label h = record { some = omega arith; known = All-cons IsKnown label [] h.known (All-nil IsKnown); within = All-cons (IsWithin k) label [] h.within (All-nil (IsWithin k)) }

  label_more : (k label : ℕ) (ls : List ℕ) → Together k ls → StandsIn k label → Together k (ls ++ label ∷ [])
  label_more k label ls h is =
      let count = length-append ls (label ∷ []) in
      record { some = omega arith; known = All-push IsKnown ls label h.known is.known; within = All-push (IsWithin k) ls label h.within is.within }

  labels_keep : (k : ℕ) (ls : List ℕ) (n : Placed Text) → Together k ls → Has (Together k) (label_step s (labels_by_op file.ops) k ls n)
  unfolding label_step
  labels_keep k ls n h =
      next IsLabel (Together k) (label_at s (labels_by_op file.ops) n) _ (label_is_there n) (λ l is.
      next (StandsIn k) (Together k) (if_same_op k n.at l) _ (same_op k n.at l (l.1 == k) refl is) (λ label stands. label_more k label ls h stands))

  abbrev AreLabels : List ℕ × ℕ → Type 0
  AreLabels ls = IsOp ls.1 × Together ls.1 ls.0

  labels_are : (n : Placed Text) (others : List (Placed Text)) → Has AreLabels (labels_mean s (labels_by_op file.ops) n others)
  unfolding labels_mean
  labels_are n others =
      next IsLabel AreLabels (label_at s (labels_by_op file.ops) n) _ (label_is_there n) (λ l is.
      next (Together l.1) AreLabels (in_turn (label_step s (labels_by_op file.ops) l.1) (l.0 ∷ []) others) _
      (turns (Together l.1) (label_step s (labels_by_op file.ops) l.1) (labels_keep l.1) (l.0 ∷ []) others (one_label l.1 l.0 is.0)) (λ ls h. (is.1, h)))

  -- ---- items

  record PartsFit (st : Parts) : Type 0 where
    invariants : length st.0 ≤ most limits.Invariants
    each_invariant : All (InvariantFits file) st.0
    items : length st.1 ≤ most limits.Items
    each_item : All (ItemFits file) st.1

  -- the locals of an operation that is there
  own_locals : (k : ℕ) (op : Op) (c : Clause) → slice_get file.ops k ≡ Some op → ClauseFits file (locals_of file.ops k) true c → ClauseFits file op.locals true c
  own_locals k op c e h = subst (λ (ls : List Local). ClauseFits file ls true c) (ap locals_or_none e) h

  invariant_more : (st : Parts) (c : Clause) → PartsFit st → length st.0 < most limits.Invariants → InvariantFits file c → PartsFit (st.0 ++ c ∷ [], st.1)
  invariant_more st c h less fits =
      let count = length-append st.0 (c ∷ []) in
      record {
        invariants = omega arith;
        each_invariant = All-append (InvariantFits file) st.0 (c ∷ []) h.each_invariant (All-cons (InvariantFits file) c [] fits (All-nil (InvariantFits file)));
        items = h.items;
        each_item = h.each_item;
      }

  item_more : (st : Parts) (site : Site) (c : Clause) → PartsFit st → length st.1 < most limits.Items → SiteFits file c site → PartsFit (st.0, st.1 ++ record { site = site; clause = c } ∷ [])
  item_more st site c h less fits =
      let item : Item = record { site = site; clause = c } in
      let count = length-append st.1 (item ∷ []) in
      record {
        invariants = h.invariants;
        each_invariant = h.each_invariant;
        items = omega arith;
        each_item = All-append (ItemFits file) st.1 (item ∷ []) h.each_item (All-cons (ItemFits file) item [] fits (All-nil (ItemFits file)));
      }

  item_keeps : (st : Parts) (x : ItemTree) → PartsFit st → Has PartsFit (item_step s file.ops (labels_by_op file.ops) st x)
  unfolding item_step
  item_keeps st (InvariantItem c) h = below PartsFit (length st.0) (most limits.Invariants) _ _ h.invariants (λ less.
      next (InvariantFits file) PartsFit (clause_means s [] false c) _ (clause_fits [] false c) (λ k fits. invariant_more st k h less fits))
  item_keeps st (OverItem name c) h = below PartsFit (length st.1) (most limits.Items) _ _ h.items (λ less.
      next IsOp PartsFit (op_at s file.ops name) _ (op_is_there name) (λ o is.
      next (ClauseFits file (locals_of file.ops o) true) PartsFit (clause_means s (locals_of file.ops o) true c) _ (clause_fits (locals_of file.ops o) true c) (λ k fits.
      item_more st (Over (record { 0 = o })) k h less (is.0, is.1, own_locals o is.0 k is.1 fits))))
  item_keeps st (AtItem name others c) h = below PartsFit (length st.1) (most limits.Items) _ _ h.items (λ less.
      next AreLabels PartsFit (labels_mean s (labels_by_op file.ops) name others) _ (labels_are name others) (λ ls are.
      next (ClauseFits file (locals_of file.ops ls.1) true) PartsFit (clause_means s (locals_of file.ops ls.1) true c) _ (clause_fits (locals_of file.ops ls.1) true c) (λ k fits.
      item_more st (At ls.0) k h less (ls.1, are.0.0, are.0.1, are.1, own_locals ls.1 are.0.0 k are.0.1 fits))))

  -- ---- the outline

  small_depth : (n at : ℕ) (a b : Bool) → (n == 0) ≡ a → (n == 1) ≡ b → Has (λ (d : ℕ). d ≤ 1) (if a || b then Ok n else Err (faults.WrongSort at))
  small_depth n at true b e f = let is = eqb-true n 0 e in omega arith
  small_depth n at false true e f = let is = eqb-true n 1 f in omega arith
  small_depth n at false false e f = tt

  depth_small : (d : Option (Placed ℕ)) → Has (λ (n : ℕ). n ≤ 1) (depth_means d)
  depth_small None = omega arith
  depth_small (Some d) = small_depth d.value d.at (d.value == 0) (d.value == 1) refl refl

  nothing_fits : PartsFit ([], [])
  nothing_fits = record { invariants = omega arith; each_invariant = All-nil (InvariantFits file); items = omega arith; each_item = All-nil (ItemFits file) }

  outline_keeps : (t : OutlineTree) → Has (OutlineFits file) (outline_means s file.ops t)
  unfolding outline_means
  outline_keeps (Outlined d xs) =
      next (λ (n : ℕ). n ≤ 1) (OutlineFits file) (depth_means d) _ (depth_small d) (λ n small.
      next PartsFit (OutlineFits file) (in_turn (item_step s file.ops (labels_by_op file.ops)) ([], []) xs) _
      (turns PartsFit (item_step s file.ops (labels_by_op file.ops)) item_keeps ([], []) xs nothing_fits) (λ all h.
      record { depth = small; invariants = h.invariants; each_invariant = h.each_invariant; items = h.items; each_item = h.each_item }))

pub outline_fits : OutlinesFit
outline_fits s file tree outline names e = has_along (OutlineFits file) (outline_means s file.ops tree) outline e (outline_keeps file s names tree)
