-- Whether an outline has a meaning, and which, doesn't depend on its places: they say only where a fault is told.
use Rattle.std.proofs.Common.{◌==◌, ◌+◌, ◌||◌, ℕ, Bool, true, false, if◌then◌else◌, List, [], ◌∷◌, Option, Some, None}
use Rattle.std.proofs.Common.{Result, Ok, Err, length, map, refl}
use Rattle.plc_base.specs.Limits.{most}
use Rattle.plc_base.specs.declared.limits.What1.TheVariants as limits
use Rattle.plc_base.specs.Names.{NameList, place_of}
use Rattle.plc_lang.specs.declared.syntax.Local.{Local}
use Rattle.plc_lang.specs.declared.syntax.Op.{Op}
use Rattle.plc_lang.specs.Locals.{locals_of}
use Rattle.plc_lang.specs.Labels.{labels_by_op, op_of_label}
use Rattle.plc_syntax.specs.Trees.{Text, Placed, PlaceTree, PlaceOf, TermTree, PlaceTerm, NullTerm, NumberTerm, MeTerm}
use Rattle.plc_syntax.specs.Trees.{NoneTerm, FlagTree, RetiredFlag, MarkedFlag, LiteralTree, FlagLiteral, NotLiteral}
use Rattle.plc_syntax.specs.Trees.{EqualityLiteral, BoundTree, NoBound, AllOf, ClauseTree, Claims, ItemTree}
use Rattle.plc_syntax.specs.Trees.{InvariantItem, OverItem, AtItem, OutlineTree, Outlined}
use Rattle.plc_syntax.proofs.Unplaced.{unplaced, unplaced_by, unplaced_maybe, unplaced_label, unplaced_place}
use Rattle.plc_syntax.proofs.Unplaced.{unplaced_term, unplaced_flag, unplaced_literal, unplaced_bound, unplaced_clause}
use Rattle.plc_syntax.proofs.Unplaced.{unplaced_item, unplaced_outline}
use Rattle.plc_scope.specs.declared.fault.ParseFault.{ParseFault}
use Rattle.plc_scope.specs.declared.fault.ParseFault.TheVariants as faults
use Rattle.plc_scope.specs.declared.scope.Scope.{Scope}
use Rattle.plc_scope.specs.Limits.{stands_at}
use Rattle.plc_scope.specs.Scope.{if_new, with_last}
use Rattle.plc_scope.proofs.Alike.{Same, then_same, fits_same, known_same, needed_same, new_same, limit_same}
use Rattle.plc_scope.proofs.Alike.{refused_same}
use Rattle.plc_logic.specs.declared.clause.Base.{Base}
use Rattle.plc_logic.specs.declared.clause.Literal.{Literal}
use Rattle.plc_logic.specs.declared.clause.Sort.{Sort}
use Rattle.plc_logic.specs.Sorts.{same_sort}
use Rattle.plc_outparse.specs.declared.kind.Kind.{Kind}
use Rattle.plc_outparse.specs.Reach.{Reach, declared_kind, kind_of, kind_at, base_at, as_term, as_field, as_pointer}
use Rattle.plc_outparse.specs.Reach.{as_pointer_field}
use Rattle.plc_outparse.specs.Meaning.{in_turn, wanted_of, me_means, term_means, sort_place, second_means, flag_means}
use Rattle.plc_outparse.specs.Meaning.{literal_means, counted, literal_step, none_bound, if_free, bound_with}
use Rattle.plc_outparse.specs.Meaning.{second_bound, bound_means, reach, clause_means, op_named, op_at, label_named}
use Rattle.plc_outparse.specs.Meaning.{label_at, if_same_op, label_step, labels_mean, Parts, item_step, depth_means}
use Rattle.plc_outparse.specs.Meaning.{outline_means}

turns_same : {S X : Type 0} (step : S → X → Result S ParseFault) (bare : X → X)
    → ((s : S) (x : X) → Same (step s x) (step s (bare x))) → (s : S) (xs : List X)
    → Same (in_turn step s xs) (in_turn step s (map bare xs))
turns_same step bare one s [] = refl
turns_same step bare one s (x ∷ xs) = then_same _ _ _ _ (one s x) (λ t. turns_same step bare one t xs)

-- ---- literals

module _ (r : Reach) where
  kind_same : (n : Placed Text) → Same (kind_at r n) (kind_at r (unplaced n))
  kind_same n = known_same n.at 0 (kind_of r n.value)

  base_same : (n : Placed Text) → Same (base_at r n) (base_at r (unplaced n))
  unfolding base_at
  base_same n = needed_same _ n.at 0 (kind_of r n.value)

  wanted_same : {A : Type 0} (alone : Kind → Option A) (after : Base → Kind → Option A) (p : PlaceTree)
      → Same (wanted_of r alone after p) (wanted_of r alone after (unplaced_place p))
  wanted_same alone after (PlaceOf n None) = then_same _ _ _ _ (kind_same n) (λ k. fits_same n.at 0 (alone k))
  wanted_same alone after (PlaceOf n (Some f)) = then_same _ _ _ _ (base_same n) (λ b.
      then_same _ _ _ _ (kind_same f) (λ k. fits_same f.at 0 (after b k)))

  me_same : (b : Bool) (at : ℕ) → Same (me_means b at) (me_means b 0)
  me_same true at = refl
  me_same false at = tt

  term_same : (t : TermTree) → Same (term_means r t) (term_means r (unplaced_term t))
  unfolding term_means
  term_same (PlaceTerm p) = wanted_same as_term as_field p
  term_same (NullTerm at) = refl
  term_same (NumberTerm n) = refl
  term_same (MeTerm at) = me_same r.in_operation at
  term_same (NoneTerm at) = refl

  second_same : (wanted : Sort) (t : TermTree) → Same (second_means r wanted t) (second_means r wanted (unplaced_term t))
  unfolding second_means
  second_same wanted t = then_same _ _ _ _ (term_same t) (λ x. by x.0 (same_sort x.1 wanted))
    where
      by : {A : Type 0} (x : A) (b : Bool) → Same (if b then Ok x else Err (faults.WrongSort (sort_place t)))
          (if b then Ok x else Err (faults.WrongSort (sort_place (unplaced_term t))))
      by x true = refl
      by x false = tt

  flag_same : (is_so : Bool) (f : FlagTree) → Same (flag_means r is_so f) (flag_means r is_so (unplaced_flag f))
  flag_same is_so (RetiredFlag n) = then_same _ _ _ _ (base_same n) (λ b. refl)
  flag_same is_so (MarkedFlag p) = then_same _ _ _ _ (wanted_same as_pointer as_pointer_field p) (λ t. refl)

  literal_same : (l : LiteralTree) → Same (literal_means r l) (literal_means r (unplaced_literal l))
  unfolding literal_means
  literal_same (FlagLiteral f) = flag_same true f
  literal_same (NotLiteral f) = flag_same false f
  literal_same (EqualityLiteral a e b) = then_same _ _ _ _ (term_same a) (λ x.
      then_same _ _ _ _ (second_same x.1 b) (λ y. refl))

  counted_same : (n a b : ℕ) (m o : Result Literal ParseFault) → Same m o → Same (counted n a m) (counted n b o)
  counted_same n a b (Ok x) (Ok y) h = limit_same n limits.Literals (Ok x) (Ok y) h
  counted_same n a b (Err e) (Err f) h =
      refused_same _ (stands_at a e) (stands_at b f) (n == most limits.Literals) e f (faults.Limit limits.Literals (most limits.Literals + 1))
  counted_same n a b (Ok x) (Err f) h = absurd h
  counted_same n a b (Err e) (Ok y) h = absurd h

  literals_same : (ls : List Literal) (l : Placed LiteralTree)
      → Same (literal_step r ls l) (literal_step r ls (unplaced_by unplaced_literal l))
  unfolding literal_step
  literals_same ls l = then_same _ _ _ _ (counted_same (length ls) l.at 0 _ _ (literal_same l.value)) (λ x. refl)

-- ---- clauses

module _ (s : Scope) where
  module _ (ls : List Local) where
    bound_same : (bound : NameList) (n : Placed Text) → Same (bound_with s ls bound n) (bound_with s ls bound (unplaced n))
    unfolding bound_with
    bound_same bound n = free (declared_kind s ls n.value)
      where
        free : (k : Option Kind) → Same (if_free n.at k (if_new (place_of n.value bound.names) n.at (with_last bound n.value)))
            (if_free 0 k (if_new (place_of n.value bound.names) 0 (with_last bound n.value)))
        free None = new_same (place_of n.value bound.names) n.at 0 (with_last bound n.value)
        free (Some k) = tt

    second_bound_same : (bound : NameList) (n : Option (Placed Text))
        → Same (second_bound s ls bound n) (second_bound s ls bound (unplaced_label n))
    second_bound_same bound None = refl
    second_bound_same bound (Some n) = bound_same bound n

    all_bound_same : (b : BoundTree) → Same (bound_means s ls b) (bound_means s ls (unplaced_bound b))
    unfolding bound_means
    all_bound_same NoBound = refl
    all_bound_same (AllOf n m) = then_same _ _ _ _ (bound_same none_bound n) (λ bound. second_bound_same bound m)

    clause_same : (in_operation : Bool) (c : ClauseTree)
        → Same (clause_means s ls in_operation c) (clause_means s ls in_operation (unplaced_clause c))
    unfolding clause_means
    clause_same in_operation (Claims b l others) = then_same _ _ _ _ (all_bound_same b) (λ bound.
        let r = reach s ls in_operation bound in
        then_same _ _ _ _ (literal_same r l) (λ first.
        then_same _ _ _ _ (turns_same (literal_step r) (unplaced_by unplaced_literal) (literals_same r) (first ∷ []) others)
        (λ all. refl)))

  -- ---- items

  op_same : (ops : List Op) (n : Placed Text) → Same (op_at s ops n) (op_at s ops (unplaced n))
  unfolding op_at
  op_same ops n = then_same _ _ _ _ (known_same n.at 0 (declared_kind s [] n.value)) (λ k.
      fits_same n.at 0 (op_named ops (place_of n.value s.names.names)))

  label_same : (by_op : List (List ℕ)) (n : Placed Text) → Same (label_at s by_op n) (label_at s by_op (unplaced n))
  unfolding label_at
  label_same by_op n = then_same _ _ _ _ (known_same n.at 0 (declared_kind s [] n.value)) (λ k.
      then_same _ _ _ _ (fits_same n.at 0 (label_named s.labels (place_of n.value s.names.names))) (λ l.
      then_same _ _ _ _ (fits_same n.at 0 (op_of_label by_op l)) (λ o. refl)))

  in_op_same : (o a : ℕ) (l : ℕ × ℕ) → Same (if_same_op o a l) (if_same_op o 0 l)
  in_op_same o a l = by (l.1 == o)
    where
      by : (b : Bool) → Same (if b then Ok l.0 else Err (faults.WrongSort a)) (if b then Ok l.0 else Err (faults.WrongSort 0))
      by true = refl
      by false = tt

  further_same : (by_op : List (List ℕ)) (o : ℕ) (labels : List ℕ) (n : Placed Text)
      → Same (label_step s by_op o labels n) (label_step s by_op o labels (unplaced n))
  unfolding label_step
  further_same by_op o labels n = then_same _ _ _ _ (label_same by_op n) (λ l.
      then_same _ _ _ _ (in_op_same o n.at l) (λ k. refl))

  labels_same : (by_op : List (List ℕ)) (n : Placed Text) (ns : List (Placed Text))
      → Same (labels_mean s by_op n ns) (labels_mean s by_op (unplaced n) (map unplaced ns))
  unfolding labels_mean
  labels_same by_op n ns = then_same _ _ _ _ (label_same by_op n) (λ l.
      then_same _ _ _ _ (turns_same (label_step s by_op l.1) unplaced (further_same by_op l.1) (l.0 ∷ []) ns) (λ ls. refl))

  module _ (ops : List Op) where
    item_same : (st : Parts) (x : ItemTree)
        → Same (item_step s ops (labels_by_op ops) st x) (item_step s ops (labels_by_op ops) st (unplaced_item x))
    unfolding item_step
    item_same st (InvariantItem c) =
        limit_same (length st.0) limits.Invariants _ _ (then_same _ _ _ _ (clause_same [] false c) (λ k. refl))
    item_same st (OverItem name c) = limit_same (length st.1) limits.Items _ _ (then_same _ _ _ _ (op_same ops name) (λ o.
        then_same _ _ _ _ (clause_same (locals_of ops o) true c) (λ k. refl)))
    item_same st (AtItem name names c) =
        limit_same (length st.1) limits.Items _ _ (then_same _ _ _ _ (labels_same (labels_by_op ops) name names) (λ ls.
        then_same _ _ _ _ (clause_same (locals_of ops ls.1) true c) (λ k. refl)))

    depth_same : (d : Option (Placed ℕ)) → Same (depth_means d) (depth_means (unplaced_maybe unplaced d))
    depth_same None = refl
    depth_same (Some d) = by (d.value == 0 || d.value == 1)
      where
        by : (b : Bool) → Same (if b then Ok d.value else Err (faults.WrongSort d.at))
            (if b then Ok d.value else Err (faults.WrongSort 0))
        by true = refl
        by false = tt

    pub outline_same : (t : OutlineTree) → Same (outline_means s ops t) (outline_means s ops (unplaced_outline t))
    unfolding outline_means
    outline_same (Outlined d items) = then_same _ _ _ _ (depth_same d) (λ depth.
        then_same _ _ _ _ (turns_same (item_step s ops (labels_by_op ops)) unplaced_item item_same ([], []) items)
        (λ all. refl))
