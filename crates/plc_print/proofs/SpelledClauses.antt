-- Each clause of an outline that is read is spelled by the tree that it was read from, without places.
use Rattle.std.proofs.Common.{◌≡◌, ◌==◌, ℕ, ◌+◌, Bool, true, false, Option, Some, None, IfSome, option_map, Result, Ok, Err, List, [], ◌∷◌, ◌++◌, map, length, slice_get, refl, sym, ap, ap₂, ◌∙◌, append_assoc, append-nil}
use Rattle.std.proofs.lemmas.Simd.{map-map}
use Rattle.std.proofs.lemmas.Option.{get_or_from_slice_get}
use Rattle.plc_base.specs.Limits.{most}
use Rattle.plc_base.specs.Names.{NameList, place_of}
use Rattle.plc_base.specs.declared.limits.What1.TheVariants as limits
use Rattle.plc_lang.specs.Names.{name_at, field_name, auxiliary_name, value_name, local_name}
use Rattle.plc_lang.specs.declared.syntax.File.{File}
use Rattle.plc_lang.specs.declared.syntax.Local.{Local}
use Rattle.plc_syntax.specs.Trees.{Text, Placed, PlaceTree, PlaceOf, TermTree, PlaceTerm, NullTerm, NumberTerm, MeTerm, NoneTerm, FlagTree, RetiredFlag, MarkedFlag, LiteralTree, FlagLiteral, NotLiteral, EqualityLiteral, BoundTree, NoBound, AllOf, ClauseTree, Claims}
use Rattle.plc_scope.specs.declared.fault.ParseFault.{ParseFault}
use Rattle.plc_scope.specs.declared.fault.ParseFault.TheVariants as faults
use Rattle.plc_scope.specs.declared.scope.Scope.{Scope}
use Rattle.plc_scope.specs.declared.binding.Binding.{Binding}
use Rattle.plc_scope.specs.declared.binding.Binding.TheVariants.{Taken, Shared, PointerField, DataField, Function, Auxiliary, Value, LocalOnly}
use Rattle.plc_scope.specs.Limits.{stands_at}
use Rattle.plc_scope.specs.Scope.{if_new, with_last}
use Rattle.plc_scope.proofs.Finds.{made_is}
use Rattle.plc_scope.proofs.Holds.{Has, next, weaker, unless, if_ok, both_err}
use Rattle.plc_logic.specs.declared.clause.Base.{Base}
use Rattle.plc_logic.specs.declared.clause.Base.TheVariants as bases
use Rattle.plc_logic.specs.declared.clause.Term.{Term}
use Rattle.plc_logic.specs.declared.clause.Sort.{Sort}
use Rattle.plc_logic.specs.declared.clause.Sort.TheVariants as sorts
use Rattle.plc_logic.specs.declared.clause.Literal.{Literal}
use Rattle.plc_logic.specs.declared.clause.Clause.{Clause}
use Rattle.plc_outparse.specs.declared.kind.Kind.{Kind}
use Rattle.plc_outparse.specs.declared.kind.Kind.TheVariants as kinds
use Rattle.plc_syntax.proofs.Unplaced.{unplaced_by, unplaced_place, unplaced_term, unplaced_flag, unplaced_literal, unplaced_bound, unplaced_clause}
use Rattle.plc_outparse.specs.Reach.{Reach, binding_kind, local_kind, kind_found, declared_kind, kind_or_bound, kind_of, kind_at, as_base, base_at, as_term, as_pointer, as_field, as_pointer_field}
use Rattle.plc_logic.specs.Sorts.{same_sort}
use Rattle.plc_outparse.specs.Meaning.{in_turn, wanted_of, me_means, term_means, sort_place, second_means, pointer_means, flag_means, literal_means, counted, literal_step, none_bound, if_free, bound_with, bound_means, reach, clause_means}
use Rattle.plc_print.specs.Outlines.{bare, base_name, term_tree, pointer_place, flag_literal, literal_tree, bound_tree, claims_tree, clause_tree}
use Rattle.plc_print.proofs.SpelledNames.{IsBound, Bound, Ends, from_number, number_named, place_found, fits_found, known_found}

-- ---- parts that are added one by one

module _ {X Z Y : Type 0} (E : Type 0) (bare_of : X → Z) (spell : Y → Z) (step : List Y → X → Result (List Y) ParseFault) where
  -- a step adds one part, spelled so, after those before it
  pub record OneMore (st : List Y) (x : X) (t : List Y) : Type 0 where
    pub added : Y
    pub is : t ≡ st ++ added ∷ []
    pub tree : E → spell added ≡ bare_of x

  -- steps in turn do so
  pub record ManyMore (st : List Y) (xs : List X) (t : List Y) : Type 0 where
    pub added : List Y
    pub is : t ≡ st ++ added
    pub tree : E → map spell added ≡ map bare_of xs

  pub more_found : ((st : List Y) (x : X) → Has (OneMore st x) (step st x)) → (st : List Y) (xs : List X) → Has (ManyMore st xs) (in_turn step st xs)
  more_found one st [] = record { added = []; is = sym (append-nil st); tree = λ e. refl }
  more_found one st (x ∷ xs) = next (OneMore st x) (ManyMore st (x ∷ xs)) (step st x) (λ t. in_turn step t xs) (one st x) (λ t f.
      weaker (ManyMore t xs) (ManyMore st (x ∷ xs)) (in_turn step t xs) (λ u g. record {
        added = f.added ∷ g.added;
        is = g.is ∙ ap (λ (ys : List Y). ys ++ g.added) f.is ∙ append_assoc st (f.added ∷ []) g.added;
        tree = λ e. ap₂ (λ (y : Z) (ys : List Z). y ∷ ys) (f.tree e) (g.tree e);
      }) (more_found one t xs))

-- ---- names

bound_or : (P : Kind → Type 0) (o : Option ℕ) (k : Option Kind) → ((i : ℕ) → o ≡ Some i → P (kinds.Node (bases.Bound i))) → IfSome k P → IfSome (kind_or_bound o k) P
bound_or P (Some i) k h g = h i refl
bound_or P None k h g = g

module _ (file : File) (s : Scope) (bound : Bound file s) where
  module _ (ls : List Local) (names : List Text) where
    -- the canonical text spells the name for this kind
    abbrev KindIs : Text → Kind → Type 0
    KindIs n (kinds.Node b) = base_name file ls names b ≡ n
    KindIs n (kinds.Data i) = local_name file ls i ≡ n
    KindIs n (kinds.Field f t) = field_name file f ≡ n
    KindIs n (kinds.Auxiliary g t) = auxiliary_name file g ≡ n
    KindIs n (kinds.Value g v) = value_name file g v ≡ n
    KindIs n kinds.NoValue = Unit {0}

    local_is : (n : Text) (i : ℕ) (l : Local) (is_pointer : Bool) → slice_get ls i ≡ Some l → name_at file l.name ≡ n → KindIs n (local_kind i is_pointer)
    local_is n i l true there named = from_number file (option_map (λ (x : Local). x.name) (slice_get ls i)) l.name n (ap (option_map (λ (x : Local). x.name)) there) named
    local_is n i l false there named = from_number file (option_map (λ (x : Local). x.name) (slice_get ls i)) l.name n (ap (option_map (λ (x : Local). x.name)) there) named

    binding_is : (n : Text) (i : ℕ) (b : Binding) → name_at file i ≡ n → IsBound file i b → IfSome (binding_kind b) (KindIs n)
    binding_is n i Taken e h = tt
    binding_is n i (Shared k) e h = from_number file _ i n h e
    binding_is n i (PointerField f) e h = from_number file _ i n h e
    binding_is n i (DataField f) e h = from_number file _ i n h e
    binding_is n i (Function f p) e h = tt
    binding_is n i (Auxiliary g t) e h = from_number file _ i n h e
    binding_is n i (Value g v) e h = from_number file _ i n h e
    binding_is n i LocalOnly e h = tt

    declared_is : (n : Text) → Ends file s → IfSome (declared_kind s ls n) (KindIs n)
    unfolding declared_kind
    declared_is n ends =
        let named : (i : ℕ) → place_of n s.names.names ≡ Some i → name_at file i ≡ n = λ i e. number_named file s i n ends (place_found n s.names.names i e) in
        made_is kind_found (KindIs n) s ls n (λ i j l at there same. local_is n j l l.pointer there (ap (name_at file) same ∙ named i at)) (λ i b at there. binding_is n i b (named i at) (bound.each i b there))

  module _ (ls : List Local) (in_operation : Bool) (quantified : NameList) where
    abbrev here : Reach
    here = reach s ls in_operation quantified

    abbrev IsKind : Text → Kind → Type 0
    IsKind n k = Ends file s → KindIs ls quantified.names n k

    kind_is : (n : Text) → Ends file s → IfSome (kind_of here n) (KindIs ls quantified.names n)
    unfolding kind_of
    kind_is n ends = bound_or (KindIs ls quantified.names n) (place_of n quantified.names) (declared_kind s ls n) (λ i e. get_or_from_slice_get quantified.names i n [] (place_found n quantified.names i e)) (declared_is ls quantified.names n ends)

    named_found : (n : Placed Text) → Has (IsKind n.value) (kind_at here n)
    named_found n = known_found file (Ends file s) (KindIs ls quantified.names n.value) (kind_of here n.value) n.at (kind_is n.value)

    -- ---- terms

    abbrev IsBase : Text → Base → Type 0
    IsBase n b = Ends file s → base_name file ls quantified.names b ≡ n

    base_is : (n : Text) (k : Kind) → KindIs ls quantified.names n k → IfSome (as_base k) (λ b. base_name file ls quantified.names b ≡ n)
    base_is n (kinds.Node b) h = h
    base_is n (kinds.Data i) h = tt
    base_is n (kinds.Field f t) h = tt
    base_is n (kinds.Auxiliary g t) h = tt
    base_is n (kinds.Value g v) h = tt
    base_is n kinds.NoValue h = tt

    base_found : (n : Placed Text) → Has (IsBase n.value) (base_at here n)
    unfolding base_at
    base_found n = next (IsKind n.value) (IsBase n.value) (kind_at here n) _ (named_found n)
        (λ k h. fits_found file (Ends file s) (λ b. base_name file ls quantified.names b ≡ n.value) (as_base k) n.at (λ e. base_is n.value k (h e)))

    -- what is wanted of a place is spelled so, alone or after a dot
    wanted_found : {A : Type 0} (alone : Kind → Option A) (field : Base → Kind → Option A) (Spells : PlaceTree → A → Type 0)
        → ((n : Text) (k : Kind) → KindIs ls quantified.names n k → IfSome (alone k) (Spells (PlaceOf (bare n) None)))
        → ((m n : Text) (b : Base) (k : Kind) → base_name file ls quantified.names b ≡ m → KindIs ls quantified.names n k → IfSome (field b k) (Spells (PlaceOf (bare m) (Some (bare n)))))
        → (p : PlaceTree) → Has (λ x. Ends file s → Spells (unplaced_place p) x) (wanted_of here alone field p)
    wanted_found alone field Spells one other (PlaceOf n None) =
        next (IsKind n.value) _ (kind_at here n) _ (named_found n)
        (λ k h. fits_found file (Ends file s) (Spells (PlaceOf (bare n.value) None)) (alone k) n.at (λ e. one n.value k (h e)))
    wanted_found alone field Spells one other (PlaceOf n (Some f)) =
        next (IsBase n.value) _ (base_at here n) _ (base_found n) (λ b h.
        next (IsKind f.value) _ (kind_at here f) _ (named_found f) (λ k g.
        fits_found file (Ends file s) (Spells (PlaceOf (bare n.value) (Some (bare f.value)))) (field b k) f.at (λ e. other n.value f.value b k (h e) (g e))))

    abbrev SpellsTerm : TermTree → Term × Sort → Type 0
    SpellsTerm t x = term_tree file ls quantified.names x.0 ≡ t

    abbrev IsTerm : TermTree → Term × Sort → Type 0
    IsTerm t x = Ends file s → SpellsTerm (unplaced_term t) x

    alone_is : (n : Text) (k : Kind) → KindIs ls quantified.names n k → IfSome (as_term k) (SpellsTerm (PlaceTerm (PlaceOf (bare n) None)))
    alone_is n (kinds.Node (bases.Shared i)) h = ap (λ (m : Text). PlaceTerm (PlaceOf (bare m) None)) h
    alone_is n (kinds.Node (bases.Local i)) h = ap (λ (m : Text). PlaceTerm (PlaceOf (bare m) None)) h
    alone_is n (kinds.Node (bases.Bound i)) h = ap (λ (m : Text). PlaceTerm (PlaceOf (bare m) None)) h
    alone_is n (kinds.Data i) h = ap (λ (m : Text). PlaceTerm (PlaceOf (bare m) None)) h
    alone_is n (kinds.Field f t) h = tt
    alone_is n (kinds.Auxiliary g t) h = tt
    alone_is n (kinds.Value g v) h = ap (λ (m : Text). PlaceTerm (PlaceOf (bare m) None)) h
    alone_is n kinds.NoValue h = tt

    field_is : (m n : Text) (b : Base) (k : Kind) → base_name file ls quantified.names b ≡ m → KindIs ls quantified.names n k → IfSome (as_field b k) (SpellsTerm (PlaceTerm (PlaceOf (bare m) (Some (bare n)))))
    field_is m n b (kinds.Node c) h g = tt
    field_is m n b (kinds.Data i) h g = tt
    field_is m n b (kinds.Field f t) h g = ap₂ (λ (x y : Text). PlaceTerm (PlaceOf (bare x) (Some (bare y)))) h g
    field_is m n b (kinds.Auxiliary f t) h g = ap₂ (λ (x y : Text). PlaceTerm (PlaceOf (bare x) (Some (bare y)))) h g
    field_is m n b (kinds.Value f v) h g = tt
    field_is m n b kinds.NoValue h g = tt

    me_found : (b : Bool) (at : ℕ) → Has (IsTerm (MeTerm at)) (me_means b at)
    me_found true at = λ e. refl
    me_found false at = tt

    term_found : (t : TermTree) → Has (IsTerm t) (term_means here t)
    unfolding term_means
    term_found (PlaceTerm p) = wanted_found as_term as_field (λ q x. SpellsTerm (PlaceTerm q) x) alone_is field_is p
    term_found (NullTerm at) = λ e. refl
    term_found (NumberTerm n) = λ e. refl
    term_found (MeTerm at) = me_found in_operation at
    term_found (NoneTerm at) = λ e. refl

    abbrev IsSide : TermTree → Term → Type 0
    IsSide t x = Ends file s → term_tree file ls quantified.names x ≡ unplaced_term t

    second_found : (wanted : Sort) (t : TermTree) → Has (IsSide t) (second_means here wanted t)
    unfolding second_means
    second_found wanted t = next (IsTerm t) (IsSide t) (term_means here t) _ (term_found t)
        (λ x h. if_ok (IsSide t) (same_sort x.1 wanted) x.0 (faults.WrongSort (sort_place t)) h)

    -- ---- places of pointers

    abbrev SpellsPointer : PlaceTree → Term → Type 0
    SpellsPointer p t = pointer_place file ls quantified.names t ≡ p

    alone_points : (n : Text) (k : Kind) → KindIs ls quantified.names n k → IfSome (as_pointer k) (SpellsPointer (PlaceOf (bare n) None))
    alone_points n (kinds.Node (bases.Shared i)) h = ap (λ (m : Text). PlaceOf (bare m) None) h
    alone_points n (kinds.Node (bases.Local i)) h = ap (λ (m : Text). PlaceOf (bare m) None) h
    alone_points n (kinds.Node (bases.Bound i)) h = tt
    alone_points n (kinds.Data i) h = tt
    alone_points n (kinds.Field f t) h = tt
    alone_points n (kinds.Auxiliary g t) h = tt
    alone_points n (kinds.Value g v) h = tt
    alone_points n kinds.NoValue h = tt

    field_points : (m n : Text) (b : Base) (k : Kind) → base_name file ls quantified.names b ≡ m → KindIs ls quantified.names n k → IfSome (as_pointer_field b k) (SpellsPointer (PlaceOf (bare m) (Some (bare n))))
    field_points m n b (kinds.Node c) h g = tt
    field_points m n b (kinds.Data i) h g = tt
    field_points m n b (kinds.Field f sorts.Node) h g = ap₂ (λ (x y : Text). PlaceOf (bare x) (Some (bare y))) h g
    field_points m n b (kinds.Field f sorts.Number) h g = tt
    field_points m n b (kinds.Field f sorts.Thread) h g = tt
    field_points m n b (kinds.Field f (sorts.Value v)) h g = tt
    field_points m n b (kinds.Field f sorts.Truth) h g = tt
    field_points m n b (kinds.Auxiliary f t) h g = tt
    field_points m n b (kinds.Value f v) h g = tt
    field_points m n b kinds.NoValue h g = tt

    abbrev IsPointer : PlaceTree → Term → Type 0
    IsPointer p t = Ends file s → SpellsPointer (unplaced_place p) t

    pointer_found : (p : PlaceTree) → Has (IsPointer p) (pointer_means here p)
    pointer_found p = wanted_found as_pointer as_pointer_field SpellsPointer alone_points field_points p

    -- ---- literals

    abbrev IsLiteral : LiteralTree → Literal → Type 0
    IsLiteral l x = Ends file s → literal_tree file ls quantified.names x ≡ unplaced_literal l

    abbrev IsFlag : Bool → FlagTree → Literal → Type 0
    IsFlag is_so f x = Ends file s → literal_tree file ls quantified.names x ≡ flag_literal file ls quantified.names (unplaced_flag f) is_so

    flag_found : (is_so : Bool) (f : FlagTree) → Has (IsFlag is_so f) (flag_means here is_so f)
    flag_found is_so (RetiredFlag n) = next (IsBase n.value) (IsFlag is_so (RetiredFlag n)) (base_at here n) _ (base_found n)
        (λ b h e. ap (λ (m : Text). flag_literal file ls quantified.names (RetiredFlag (bare m)) is_so) (h e))
    flag_found is_so (MarkedFlag p) = next (IsPointer p) (IsFlag is_so (MarkedFlag p)) (pointer_means here p) _ (pointer_found p)
        (λ t h e. ap (λ (q : PlaceTree). flag_literal file ls quantified.names (MarkedFlag q) is_so) (h e))

    literal_found : (l : LiteralTree) → Has (IsLiteral l) (literal_means here l)
    unfolding literal_means
    literal_found (FlagLiteral f) = flag_found true f
    literal_found (NotLiteral f) = flag_found false f
    literal_found (EqualityLiteral t is_equal u) =
        next (IsTerm t) (IsLiteral (EqualityLiteral t is_equal u)) (term_means here t) _ (term_found t) (λ x h.
        next (IsSide u) (IsLiteral (EqualityLiteral t is_equal u)) (second_means here x.1 u) _ (second_found x.1 u) (λ y g e.
        ap₂ (λ (v w : TermTree). EqualityLiteral v is_equal w) (h e) (g e)))

    counted_found : (n at : ℕ) (l : LiteralTree) (m : Result Literal ParseFault) → Has (IsLiteral l) m → Has (IsLiteral l) (counted n at m)
    counted_found n at l (Ok x) h = unless (IsLiteral l) (n == most limits.Literals) (faults.Limit limits.Literals (most limits.Literals + 1)) (Ok x) (λ below. h)
    counted_found n at l (Err e) h = both_err (IsLiteral l) (stands_at at e) (n == most limits.Literals) e (faults.Limit limits.Literals (most limits.Literals + 1)) e

    abbrev spelled_literal : Literal → Placed LiteralTree
    spelled_literal x = bare (literal_tree file ls quantified.names x)

    step_found : (st : List Literal) (l : Placed LiteralTree) → Has (OneMore (Ends file s) (unplaced_by unplaced_literal) spelled_literal (literal_step here) st l) (literal_step here st l)
    unfolding literal_step
    step_found st l =
        next (IsLiteral l.value) _ (counted (length st) l.at (literal_means here l.value)) _ (counted_found (length st) l.at l.value (literal_means here l.value) (literal_found l.value)) (λ x h.
        record { added = x; is = refl; tree = λ e. ap (λ (t : LiteralTree). bare t) (h e) })

    literals_found : (st : List Literal) (others : List (Placed LiteralTree)) → Has (ManyMore (Ends file s) (unplaced_by unplaced_literal) spelled_literal (literal_step here) st others) (in_turn (literal_step here) st others)
    literals_found st others = more_found (Ends file s) (unplaced_by unplaced_literal) spelled_literal (literal_step here) step_found st others

  -- ---- clauses

  module _ (ls : List Local) where
    free_found : (q : NameList) (name : Text) (at : ℕ) (k : Option Kind) (o : Option ℕ) → Has (λ r. r ≡ with_last q name) (if_free at k (if_new o at (with_last q name)))
    free_found q name at None None = refl
    free_found q name at None (Some i) = tt
    free_found q name at (Some k) o = tt

    with_found : (q : NameList) (name : Placed Text) → Has (λ r. r ≡ with_last q name.value) (bound_with s ls q name)
    unfolding bound_with
    with_found q name = free_found q name.value name.at (declared_kind s ls name.value) (place_of name.value q.names)

    -- no number names a quantified name, so its text is kept
    abbrev AreBound : BoundTree → NameList → Type 0
    AreBound b q = bound_tree q.names ≡ unplaced_bound b

    quantified_found : (b : BoundTree) → Has (AreBound b) (bound_means s ls b)
    unfolding bound_means
    quantified_found NoBound = refl
    quantified_found (AllOf n None) =
        next (λ q. q ≡ with_last none_bound n.value) (AreBound (AllOf n None)) (bound_with s ls none_bound n) _ (with_found none_bound n) (λ q h. ap (λ (r : NameList). bound_tree r.names) h)
    quantified_found (AllOf n (Some m)) =
        next (λ q. q ≡ with_last none_bound n.value) (AreBound (AllOf n (Some m))) (bound_with s ls none_bound n) _ (with_found none_bound n) (λ q h.
        weaker (λ r. r ≡ with_last q m.value) (AreBound (AllOf n (Some m))) (bound_with s ls q m) (λ r f.
        ap (λ (t : NameList). bound_tree t.names) (f ∙ ap (λ (t : NameList). with_last t m.value) h)) (with_found q m))

    -- the clause is spelled by the tree
    abbrev pub IsClause : ClauseTree → Clause → Type 0
    IsClause c k = Ends file s → clause_tree file ls k ≡ unplaced_clause c

    pub clause_found : (in_operation : Bool) (c : ClauseTree) → Has (IsClause c) (clause_means s ls in_operation c)
    unfolding clause_means
    clause_found in_operation (Claims b l others) =
        next (AreBound b) _ (bound_means s ls b) _ (quantified_found b) (λ q f.
        next (IsLiteral ls in_operation q l) _ (literal_means (reach s ls in_operation q) l) _ (literal_found ls in_operation q l) (λ x g.
        next (ManyMore (Ends file s) (unplaced_by unplaced_literal) (spelled_literal ls in_operation q) (literal_step (reach s ls in_operation q)) (x ∷ []) others) _
        (in_turn (literal_step (reach s ls in_operation q)) (x ∷ []) others) _ (literals_found ls in_operation q (x ∷ []) others) (λ all h e.
        ap (λ (xs : List Literal). claims_tree (bound_tree q.names) (map (literal_tree file ls q.names) xs)) h.is
        ∙ ap (λ (ys : List (Placed LiteralTree)). Claims (bound_tree q.names) (literal_tree file ls q.names x) ys) (map-map bare (literal_tree file ls q.names) h.added)
        ∙ rw (f, g e, h.tree e) refl)))
