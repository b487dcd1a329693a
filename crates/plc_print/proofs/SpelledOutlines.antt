-- The outline that is read is spelled by the normal tree of its file's outline, without places, and the normal tree means the same outline.
use Rattle.std.proofs.Common.{◌≡◌, ◌==◌, ℕ, zero, suc, ◌+◌, Bool, true, false, cond, if◌then◌else◌, not, ◌||◌, Option, Some, None, IfSome, option_map, Result, Ok, Err, List, [], ◌∷◌, ◌++◌, map, filter, length, slice_get, refl, sym, ap, ap₂, ◌∙◌, append_assoc, append-nil, eqb-true}
use Rattle.std.specs.List.{position_from}
use Rattle.std.proofs.lemmas.List.{map-append}
use Rattle.std.proofs.lemmas.Simd.{map-map}
use Rattle.std.proofs.lemmas.Option.{IfSome_then}
use Rattle.plc_base.specs.Limits.{most}
use Rattle.plc_base.specs.Names.{place_of}
use Rattle.plc_base.specs.declared.limits.What1.TheVariants as limits
use Rattle.plc_lang.specs.Locals.{locals_of}
use Rattle.plc_lang.specs.Names.{operation_name, label_name}
use Rattle.plc_lang.specs.declared.syntax.File.{File}
use Rattle.plc_lang.specs.declared.syntax.Op.{Op}
use Rattle.plc_syntax.specs.Trees.{Text, Placed, ClauseTree, ItemTree, InvariantItem, OverItem, AtItem, OutlineTree, Outlined}
use Rattle.plc_scope.specs.declared.fault.ParseFault.{ParseFault}
use Rattle.plc_scope.specs.declared.fault.ParseFault.TheVariants as faults
use Rattle.plc_scope.specs.declared.scope.Scope.{Scope}
use Rattle.plc_scope.specs.Scope.{◌>>=◌, if_fits, known}
use Rattle.plc_scope.proofs.Holds.{Has, next, any, weaker, unless, if_ok}
use Rattle.plc_scope.proofs.Finds.{position_passes}
use Rattle.plc_lang.specs.Labels.{labels_by_op, op_of_label}
use Rattle.plc_logic.specs.Sites.{op_of_site}
use Rattle.plc_logic.specs.declared.clause.Clause.{Clause}
use Rattle.plc_logic.specs.declared.clause.Site.TheVariants.{Over, At}
use Rattle.plc_logic.specs.declared.clause.Item.{Item}
use Rattle.plc_logic.specs.declared.clause.Outline.{Outline}
use Rattle.plc_syntax.specs.Forms.{at_place}
use Rattle.plc_syntax.proofs.Unplaced.{unplaced, unplaced_maybe, unplaced_names, unplaced_item, unplaced_outline}
use Rattle.plc_outparse.specs.Reach.{declared_kind}
use Rattle.plc_outparse.specs.Meaning.{in_turn, clause_means, op_named, op_at, label_named, with_op, label_at, if_same_op, label_step, labels_mean, Parts, item_step, depth_means, outline_means}
use Rattle.plc_parse.specs.Meaning.{empty_outline, outlined_means}
use Rattle.plc_print.specs.Outlines.{bare, clause_tree, invariant_tree, at_tree, locals_in_reach, item_tree, depth_tree, unless_empty, outline_tree}
use Rattle.plc_print.proofs.NormalTrees.{is_invariant, normal_items, normal_depth, normal_outline}
use Rattle.plc_print.proofs.Steps.{within, after, along}
use Rattle.plc_print.proofs.SpelledNames.{Bound, Ends, from_number, number_named, place_found, fits_found}
use Rattle.plc_print.proofs.SpelledClauses.{OneMore, ManyMore, more_found, IsClause, clause_found}

itself : {A : Type 0} (o : Option A) → IfSome o (λ x. o ≡ Some x)
itself (Some x) = refl
itself None = tt

-- two lists of parts, one after the other
both_in_turn : {S X : Type 0} (step : S → X → Result S ParseFault) (xs ys : List X) (st t : S) (r : Result S ParseFault) → in_turn step st xs ≡ Ok t → in_turn step t ys ≡ r → in_turn step st (xs ++ ys) ≡ r
both_in_turn step [] ys st t r e h = let same : st ≡ t = cc in ap (λ u. in_turn step u ys) same ∙ h
both_in_turn {S} step (x ∷ xs) ys st t r e h = by (step st x) e (λ u k. both_in_turn step xs ys u t r k h)
  where
    by : (m : Result S ParseFault) → (m >>= λ u. in_turn step u xs) ≡ Ok t → ((u : S) → in_turn step u xs ≡ Ok t → in_turn step u (xs ++ ys) ≡ r) → (m >>= λ u. in_turn step u (xs ++ ys)) ≡ r
    by (Ok u) e k = k u e
    by (Err f) e k = absurd cc

module _ (file : File) (s : Scope) (bound : Bound file s) where
  abbrev by_op : List (List ℕ)
  by_op = labels_by_op file.ops

  -- ---- sites

  abbrev IsOp : Text → ℕ → Type 0
  IsOp n k = Ends file s → operation_name file (record { 0 = k }) ≡ n

  named_op : (n : Text) (o : Option ℕ) → place_of n s.names.names ≡ o → Ends file s → IfSome (op_named file.ops o) (λ k. operation_name file (record { 0 = k }) ≡ n)
  named_op n None e ends = tt
  named_op n (Some i) e ends = IfSome_then (position_from (λ (o : Op). o.name == i) 0 file.ops) (position_passes (λ (o : Op). o.name == i) file.ops) (λ k h.
      from_number file (option_map (λ (x : Op). x.name) (slice_get file.ops k)) i n (ap (option_map (λ (x : Op). x.name)) h.1 ∙ ap Some (eqb-true h.0.name i h.2)) (number_named file s i n ends (place_found n s.names.names i e)))

  op_found : (n : Placed Text) → Has (IsOp n.value) (op_at s file.ops n)
  unfolding op_at
  op_found n = any (IsOp n.value) (known n.at (declared_kind s [] n.value)) _ (λ k.
      fits_found file (Ends file s) (λ o. operation_name file (record { 0 = o }) ≡ n.value) (op_named file.ops (place_of n.value s.names.names)) n.at (named_op n.value (place_of n.value s.names.names) refl))

  -- the label is spelled so, and stands in the operation
  record IsLabel (n : Text) (l : ℕ × ℕ) : Type 0 where
    named : Ends file s → label_name file l.0 ≡ n
    stands : op_of_label by_op l.0 ≡ Some l.1

  named_label : (n : Text) (o : Option ℕ) → place_of n s.names.names ≡ o → Ends file s → IfSome (label_named s.labels o) (λ l. label_name file l ≡ n)
  named_label n None e ends = tt
  named_label n (Some i) e ends = IfSome_then (position_from (λ (k : ℕ). k == i) 0 s.labels) (position_passes (λ (k : ℕ). k == i) s.labels) (λ l h.
      from_number file (slice_get file.labels l) i n (ends.labels l h.0 h.1 ∙ ap Some (eqb-true h.0 i h.2)) (number_named file s i n ends (place_found n s.names.names i e)))

  home_found : (n : Text) (l at : ℕ) → (Ends file s → label_name file l ≡ n) → Has (IsLabel n) (with_op by_op at l)
  home_found n l at h =
      next (λ o. Unit {0} → op_of_label by_op l ≡ Some o) (IsLabel n) (if_fits at (op_of_label by_op l)) _ (fits_found file (Unit {0}) (λ o. op_of_label by_op l ≡ Some o) (op_of_label by_op l) at (λ u. itself (op_of_label by_op l)))
      (λ o e. record { named = h; stands = e tt })

  label_found : (n : Placed Text) → Has (IsLabel n.value) (label_at s by_op n)
  unfolding label_at
  label_found n =
      let number = label_named s.labels (place_of n.value s.names.names) in
      any (IsLabel n.value) (known n.at (declared_kind s [] n.value)) _ (λ k.
      next (λ l. Ends file s → label_name file l ≡ n.value) (IsLabel n.value) (if_fits n.at number) _ (fits_found file (Ends file s) (λ l. label_name file l ≡ n.value) number n.at (named_label n.value (place_of n.value s.names.names) refl)) (λ l h.
      home_found n.value l n.at h))

  abbrev spelled_label : ℕ → Placed Text
  spelled_label l = bare (label_name file l)

  label_more : (o : ℕ) (st : List ℕ) (n : Placed Text) → Has (OneMore (Ends file s) unplaced spelled_label (label_step s by_op o) st n) (label_step s by_op o st n)
  unfolding label_step
  label_more o st n =
      next (IsLabel n.value) _ (label_at s by_op n) _ (label_found n) (λ l f.
      next (λ k. Ends file s → label_name file k ≡ n.value) _ (if_same_op o n.at l) _ (if_ok (λ k. Ends file s → label_name file k ≡ n.value) (l.1 == o) l.0 (faults.WrongSort n.at) f.named) (λ k g.
      record { added = k; is = refl; tree = λ e. ap (λ (m : Text). bare m) (g e) }))

  -- labels are spelled so, and stand in the operation
  record LabelsRead (n : Placed Text) (names : List (Placed Text)) (r : List ℕ × ℕ) : Type 0 where
    tree : Ends file s → (c : ClauseTree) → at_tree (map (label_name file) r.0) c ≡ AtItem (unplaced n) (unplaced_names names) c
    stands : op_of_site by_op (At r.0) ≡ Some r.1

  labels_found : (n : Placed Text) (names : List (Placed Text)) → Has (LabelsRead n names) (labels_mean s by_op n names)
  unfolding labels_mean
  labels_found n names =
      next (IsLabel n.value) _ (label_at s by_op n) _ (label_found n) (λ l f.
      next (ManyMore (Ends file s) unplaced spelled_label (label_step s by_op l.1) (l.0 ∷ []) names) _ (in_turn (label_step s by_op l.1) (l.0 ∷ []) names) _
      (more_found (Ends file s) unplaced spelled_label (label_step s by_op l.1) (label_more l.1) (l.0 ∷ []) names) (λ ls g. record {
        tree = λ e c. ap (λ (xs : List ℕ). at_tree (map (label_name file) xs) c) g.is ∙ ap (λ (ms : List (Placed Text)). AtItem (bare (label_name file l.0)) ms c) (map-map bare (label_name file) g.added)
            ∙ ap₂ (λ (m : Text) (ms : List (Placed Text)). AtItem (bare m) ms c) (f.named e) (g.tree e);
        stands = ap (λ (xs : List ℕ). op_of_site by_op (At xs)) g.is ∙ f.stands;
      }))

  -- ---- items

  abbrev step : Parts → ItemTree → Result Parts ParseFault
  step = item_step s file.ops by_op

  -- one more invariant, which is the same whatever items stand before it
  record InvariantRead (st : Parts) (x : ItemTree) (t : Parts) : Type 0 where
    clause : Clause
    is : t.0 ≡ st.0 ++ clause ∷ []
    others : t.1 ≡ st.1
    tree : Ends file s → invariant_tree file clause ≡ unplaced_item x
    again : (items : List Item) → step (st.0, items) x ≡ Ok (t.0, items)

  -- one more item, which is the same whatever invariants stand before it
  record ItemRead (st : Parts) (x : ItemTree) (t : Parts) : Type 0 where
    item : Item
    is : t.1 ≡ st.1 ++ item ∷ []
    others : t.0 ≡ st.0
    tree : Ends file s → item_tree file item ≡ unplaced_item x
    again : (invariants : List Clause) → step (invariants, st.1) x ≡ Ok (invariants, t.1)

  abbrev PartRead : Parts → ItemTree → Parts → Type 0
  PartRead st (InvariantItem c) t = InvariantRead st (InvariantItem c) t
  PartRead st (OverItem n c) t = ItemRead st (OverItem n c) t
  PartRead st (AtItem n names c) t = ItemRead st (AtItem n names c) t

  part_found : (st : Parts) (x : ItemTree) → Has (PartRead st x) (step st x)
  unfolding item_step
  part_found st (InvariantItem c) = unless (InvariantRead st (InvariantItem c)) (length st.0 == most limits.Invariants) _ _ (λ below.
      along (IsClause file s bound [] c) _ (clause_means s [] false c) _ (clause_found file s bound [] false c) (λ k f i. record {
        clause = k;
        is = refl;
        others = refl;
        tree = λ e. ap InvariantItem (f e);
        again = λ items. within (length st.0 == most limits.Invariants) (faults.Limit limits.Invariants (most limits.Invariants + 1)) _ _ below (after _ _ _ _ i refl);
      }))
  part_found st (OverItem n c) = unless (ItemRead st (OverItem n c)) (length st.1 == most limits.Items) _ _ (λ below.
      along (IsOp n.value) _ (op_at s file.ops n) _ (op_found n) (λ o f i.
      along (IsClause file s bound (locals_of file.ops o) c) _ (clause_means s (locals_of file.ops o) true c) _ (clause_found file s bound (locals_of file.ops o) true c) (λ k g j. record {
        item = record { site = Over (record { 0 = o }); clause = k };
        is = refl;
        others = refl;
        tree = λ e. ap₂ (λ (m : Text) (d : ClauseTree). OverItem (bare m) d) (f e) (g e);
        again = λ invariants. within (length st.1 == most limits.Items) (faults.Limit limits.Items (most limits.Items + 1)) _ _ below (after _ _ _ _ i (after _ _ _ _ j refl));
      })))
  part_found st (AtItem n names c) = unless (ItemRead st (AtItem n names c)) (length st.1 == most limits.Items) _ _ (λ below.
      along (LabelsRead n names) _ (labels_mean s by_op n names) _ (labels_found n names) (λ ls f i.
      along (IsClause file s bound (locals_of file.ops ls.1) c) _ (clause_means s (locals_of file.ops ls.1) true c) _ (clause_found file s bound (locals_of file.ops ls.1) true c) (λ k g j. record {
        item = record { site = At ls.0; clause = k };
        is = refl;
        others = refl;
        tree = λ e. f.tree e (clause_tree file (locals_in_reach file (op_of_site (labels_by_op file.ops) (At ls.0))) k) ∙ ap (λ (o : Option ℕ). AtItem (unplaced n) (unplaced_names names) (clause_tree file (locals_in_reach file o) k)) f.stands
            ∙ ap (AtItem (unplaced n) (unplaced_names names)) (g e);
        again = λ invariants. within (length st.1 == most limits.Items) (faults.Limit limits.Items (most limits.Items + 1)) _ _ below (after _ _ _ _ i (after _ _ _ _ j refl));
      })))

  abbrev is_other : ItemTree → Bool
  is_other x = not (is_invariant x)

  -- invariants and other items were added, and each kind comes again without the other
  record PartsRead (st : Parts) (xs : List ItemTree) (t : Parts) : Type 0 where
    invariants : List Clause
    items : List Item
    are_invariants : t.0 ≡ st.0 ++ invariants
    are_items : t.1 ≡ st.1 ++ items
    invariant_trees : Ends file s → map (invariant_tree file) invariants ≡ map unplaced_item (filter is_invariant xs)
    item_trees : Ends file s → map (item_tree file) items ≡ map unplaced_item (filter is_other xs)
    invariants_again : (others : List Item) → in_turn step (st.0, others) (filter is_invariant xs) ≡ Ok (t.0, others)
    items_again : (others : List Clause) → in_turn step (others, st.1) (filter is_other xs) ≡ Ok (others, t.1)

  with_invariant_read : (st u t : Parts) (c : ClauseTree) (xs : List ItemTree) → InvariantRead st (InvariantItem c) u → PartsRead u xs t → PartsRead st (InvariantItem c ∷ xs) t
  with_invariant_read st u t c xs f g = record {
    invariants = f.clause ∷ g.invariants;
    items = g.items;
    are_invariants = g.are_invariants ∙ ap (λ (ys : List Clause). ys ++ g.invariants) f.is ∙ append_assoc st.0 (f.clause ∷ []) g.invariants;
    are_items = g.are_items ∙ ap (λ (ys : List Item). ys ++ g.items) f.others;
    invariant_trees = λ e. ap₂ (λ (y : ItemTree) (ys : List ItemTree). y ∷ ys) (f.tree e) (g.invariant_trees e);
    item_trees = g.item_trees;
    invariants_again = λ others. after _ _ _ _ (f.again others) (g.invariants_again others);
    items_again = λ others. ap (λ (ys : List Item). in_turn step (others, ys) (filter is_other xs)) (sym f.others) ∙ g.items_again others;
  }

  with_item_read : (st u t : Parts) (x : ItemTree) (xs : List ItemTree) → is_invariant x ≡ false → ItemRead st x u → PartsRead u xs t → PartsRead st (x ∷ xs) t
  with_item_read st u t x xs none f g =
      let left_out : filter is_invariant (x ∷ xs) ≡ filter is_invariant xs = ap (λ (b : Bool). cond b (x ∷ filter is_invariant xs) (filter is_invariant xs)) none in
      let kept : filter is_other (x ∷ xs) ≡ x ∷ filter is_other xs = ap (λ (b : Bool). cond (not b) (x ∷ filter is_other xs) (filter is_other xs)) none in
      record {
        invariants = g.invariants;
        items = f.item ∷ g.items;
        are_invariants = g.are_invariants ∙ ap (λ (ys : List Clause). ys ++ g.invariants) f.others;
        are_items = g.are_items ∙ ap (λ (ys : List Item). ys ++ g.items) f.is ∙ append_assoc st.1 (f.item ∷ []) g.items;
        invariant_trees = λ e. g.invariant_trees e ∙ ap (map unplaced_item) (sym left_out);
        item_trees = λ e. ap₂ (λ (y : ItemTree) (ys : List ItemTree). y ∷ ys) (f.tree e) (g.item_trees e) ∙ ap (map unplaced_item) (sym kept);
        invariants_again = λ others. ap (in_turn step (st.0, others)) left_out ∙ ap (λ (ys : List Clause). in_turn step (ys, others) (filter is_invariant xs)) (sym f.others) ∙ g.invariants_again others;
        items_again = λ others. ap (in_turn step (others, st.1)) kept ∙ after _ _ _ _ (f.again others) (g.items_again others);
      }

  parts_found : (st : Parts) (xs : List ItemTree) → Has (PartsRead st xs) (in_turn step st xs)
  parts_found st [] = record {
    invariants = [];
    items = [];
    are_invariants = sym (append-nil st.0);
    are_items = sym (append-nil st.1);
    invariant_trees = λ e. refl;
    item_trees = λ e. refl;
    invariants_again = λ others. refl;
    items_again = λ others. refl;
  }
  parts_found st (x ∷ xs) = next (PartRead st x) (PartsRead st (x ∷ xs)) (step st x) (λ u. in_turn step u xs) (part_found st x) (λ u f.
      weaker (PartsRead u xs) (PartsRead st (x ∷ xs)) (in_turn step u xs) (λ t g. by x u f t g) (parts_found u xs))
    where
      by : (x : ItemTree) (u : Parts) → PartRead st x u → (t : Parts) → PartsRead u xs t → PartsRead st (x ∷ xs) t
      by (InvariantItem c) u f t g = with_invariant_read st u t c xs f g
      by (OverItem n c) u f t g = with_item_read st u t (OverItem n c) xs refl f g
      by (AtItem n names c) u f t g = with_item_read st u t (AtItem n names c) xs refl f g

  -- ---- the outline

  -- the depth that is left out where it is 0
  record DepthRead (d : Option (Placed ℕ)) (n : ℕ) : Type 0 where
    tree : depth_tree n ≡ unplaced_maybe unplaced (normal_depth d)
    again : depth_means (normal_depth d) ≡ Ok n

  depth_found : (d : Option (Placed ℕ)) → Has (DepthRead d) (depth_means d)
  depth_found None = record { tree = refl; again = refl }
  depth_found (Some d) = by d.at d.value
    where
      allowed : (at n : ℕ) (b : Bool) → (suc n == 0 || suc n == 1) ≡ b → Has (DepthRead (Some (at_place at (suc n)))) (if b then Ok (suc n) else Err (faults.WrongSort at))
      allowed at n true e = record { tree = refl; again = ap (λ (b : Bool). if b then Ok (suc n) else Err (faults.WrongSort at)) e }
      allowed at n false e = tt

      by : (at n : ℕ) → Has (DepthRead (Some (at_place at n))) (depth_means (Some (at_place at n)))
      by at zero = record { tree = refl; again = refl }
      by at (suc n) = allowed at n (suc n == 0 || suc n == 1) refl

  -- a tree of these parts means the outline that has them
  module _ (d : Option (Placed ℕ)) (n : ℕ) (all : Parts) (depth : depth_means d ≡ Ok n) where
    abbrev made : Outline
    made = record { depth = n; invariants = all.0; items = all.1 }

    some_again : (xs : List ItemTree) → in_turn step ([], []) xs ≡ Ok all → outlined_means s file.ops (Some (Outlined d xs)) ≡ Ok made
    unfolding outline_means
    some_again xs parts = after _ _ _ _ depth (after _ _ _ _ parts refl)

  -- of depth 0 and without parts it is left out
  nothing_again : (n : ℕ) (all : Parts) → ◌≡◌ {A = Result ℕ ParseFault} (Ok 0) (Ok n) → ◌≡◌ {A = Result Parts ParseFault} (Ok ([], [])) (Ok all)
      → ◌≡◌ {A = Result Outline ParseFault} (Ok empty_outline) (Ok (record { depth = n; invariants = all.0; items = all.1 }))
  nothing_again n all depth parts =
      let same : 0 ≡ n = cc in
      let empty : ◌≡◌ {A = Parts} ([], []) all = cc in
      ap (λ (k : ℕ). Ok (record { depth = k; invariants = []; items = [] })) same ∙ ap (λ (p : Parts). Ok (record { depth = n; invariants = p.0; items = p.1 })) empty

  normal_again : (d : Option (Placed ℕ)) (xs : List ItemTree) (n : ℕ) (all : Parts) → depth_means d ≡ Ok n → in_turn step ([], []) xs ≡ Ok all
      → outlined_means s file.ops (unless_empty d xs) ≡ Ok (record { depth = n; invariants = all.0; items = all.1 })
  normal_again None [] n all depth parts = nothing_again n all depth parts
  normal_again None (x ∷ xs) n all depth parts = some_again None n all depth (x ∷ xs) parts
  normal_again (Some d) xs n all depth parts = some_again (Some d) n all depth xs parts

  unplaced_unless : (d : Option (Placed ℕ)) (xs : List ItemTree) → unless_empty (unplaced_maybe unplaced d) (map unplaced_item xs) ≡ unplaced_maybe unplaced_outline (unless_empty d xs)
  unplaced_unless None [] = refl
  unplaced_unless None (x ∷ xs) = refl
  unplaced_unless (Some d) xs = refl

  pub record OutlineRead (o : Option OutlineTree) (r : Outline) : Type 0 where
    pub tree : Ends file s → outline_tree file r ≡ unplaced_maybe unplaced_outline (normal_outline o)
    pub again : outlined_means s file.ops (normal_outline o) ≡ Ok r

  tree_found : (d : Option (Placed ℕ)) (xs : List ItemTree) → Has (OutlineRead (Some (Outlined d xs))) (outline_means s file.ops (Outlined d xs))
  unfolding outline_means
  tree_found d xs =
      next (DepthRead d) _ (depth_means d) _ (depth_found d) (λ n f.
      next (PartsRead ([], []) xs) _ (in_turn step ([], []) xs) _ (parts_found ([], []) xs) (λ all g. record {
        tree = λ e. ap₂ unless_empty f.tree (ap₂ (λ (ys zs : List ItemTree). ys ++ zs) (ap (map (invariant_tree file)) g.are_invariants ∙ g.invariant_trees e) (ap (map (item_tree file)) g.are_items ∙ g.item_trees e)
            ∙ sym (map-append unplaced_item (filter is_invariant xs) (filter is_other xs))) ∙ unplaced_unless (normal_depth d) (normal_items xs);
        again = normal_again (normal_depth d) (normal_items xs) n all f.again
            (both_in_turn step (filter is_invariant xs) (filter is_other xs) ([], []) (all.0, []) _ (g.invariants_again []) (g.items_again all.0));
      }))

  pub outline_found : (o : Option OutlineTree) → Has (OutlineRead o) (outlined_means s file.ops o)
  outline_found None = record { tree = λ e. refl; again = refl }
  outline_found (Some (Outlined d xs)) = tree_found d xs
