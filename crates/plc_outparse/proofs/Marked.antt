-- An outline uses marks exactly where the tree that means it does: form by form, where one of its parts does.
use Rattle.std.proofs.Common.{◌≡◌, ◌==◌, ℕ, Bool, true, false, ◌||◌, Result, Ok, Err, List, [], ◌∷◌, ◌++◌, length}
use Rattle.std.proofs.Common.{refl, sym, ap, ◌∙◌}
use Rattle.std.specs.List.{list_any}
use Rattle.std.proofs.lemmas.List.Folds.{list_any-append}
use Rattle.plc_base.specs.Limits.{most}
use Rattle.plc_base.specs.declared.limits.What1.TheVariants as limits
use Rattle.plc_lang.specs.declared.syntax.Local.{Local}
use Rattle.plc_lang.specs.declared.syntax.Op.{Op}
use Rattle.plc_lang.specs.Labels.{labels_by_op}
use Rattle.plc_lang.specs.Locals.{locals_of}
use Rattle.plc_syntax.specs.Trees.{Placed, FlagTree, RetiredFlag, MarkedFlag, LiteralTree, FlagLiteral, NotLiteral}
use Rattle.plc_syntax.specs.Trees.{EqualityLiteral, ClauseTree, Claims, ItemTree, InvariantItem, OverItem, AtItem}
use Rattle.plc_syntax.specs.Trees.{OutlineTree, Outlined}
use Rattle.plc_syntax.specs.Marks.{flag_uses_marks, literal_tree_uses_marks, clause_tree_uses_marks}
use Rattle.plc_syntax.specs.Marks.{item_tree_uses_marks, outline_tree_uses_marks}
use Rattle.plc_scope.specs.declared.fault.ParseFault.{ParseFault}
use Rattle.plc_scope.specs.declared.scope.Scope.{Scope}
use Rattle.plc_scope.specs.Limits.{stands_at}
use Rattle.plc_scope.proofs.Holds.{Has, weaker, next, any, unless, both_err}
use Rattle.plc_logic.specs.declared.clause.Literal.{Literal}
use Rattle.plc_logic.specs.declared.clause.Clause.{Clause}
use Rattle.plc_logic.specs.declared.clause.Site.{Site}
use Rattle.plc_logic.specs.declared.clause.Site.TheVariants.{Over, At}
use Rattle.plc_logic.specs.declared.clause.Outline.{Outline}
use Rattle.plc_logic.specs.Marks.{literal_uses_marks, clause_uses_marks, item_uses_marks, outline_uses_marks}
use Rattle.plc_outparse.specs.Reach.{Reach, base_at}
use Rattle.plc_outparse.specs.Meaning.{in_turn, term_means, second_means, pointer_means, flag_means, literal_means}
use Rattle.plc_outparse.specs.Meaning.{counted, literal_step, bound_means, reach, clause_means}
use Rattle.plc_outparse.specs.Meaning.{op_at, labels_mean, Parts, item_step, depth_means, outline_means}

-- ---- one more

or_nothing : (b : Bool) → (b || false) ≡ b
or_nothing true = refl
or_nothing false = refl

or_groups : (a b c : Bool) → (a || (b || c)) ≡ ((a || b) || c)
or_groups true b c = refl
or_groups false b c = refl

or_swaps : (a b c : Bool) → ((a || c) || b) ≡ ((a || b) || c)
or_swaps true b c = refl
or_swaps false true true = refl
or_swaps false true false = refl
or_swaps false false true = refl
or_swaps false false false = refl

-- one at the end of others, of which it is known whether it does
any_pushed : {X : Type 0} (uses : X → Bool) (xs : List X) (x : X) (b : Bool) → uses x ≡ b
    → list_any uses (xs ++ x ∷ []) ≡ (list_any uses xs || b)
any_pushed uses xs x b is =
    list_any-append uses xs (x ∷ []) ∙ ap (λ c. list_any uses xs || c) (or_nothing (uses x) ∙ is)

-- parts in order, each of which adds what it does to what those before it did
module _ {S X : Type 0} (step : S → X → Result S ParseFault) (says : S → Bool) (uses : X → Bool)
    (adds : (s : S) (x : X) → Has (λ t. says t ≡ (says s || uses x)) (step s x)) where
  turns_marked : (s : S) (xs : List X) → Has (λ t. says t ≡ (says s || list_any uses xs)) (in_turn step s xs)
  turns_marked s [] = sym (or_nothing (says s))
  turns_marked s (x ∷ xs) =
      next (λ t. says t ≡ (says s || uses x)) (λ t. says t ≡ (says s || (uses x || list_any uses xs))) (step s x) _
      (adds s x) (λ t one.
      weaker (λ u. says u ≡ (says t || list_any uses xs)) (λ u. says u ≡ (says s || (uses x || list_any uses xs)))
      (in_turn step t xs) (λ u all. all ∙ ap (λ b. b || list_any uses xs) one
      ∙ sym (or_groups (says s) (uses x) (list_any uses xs))) (turns_marked t xs))

-- ---- literals

abbrev LiteralSpeaks : Bool → Literal → Type 0
LiteralSpeaks uses l = literal_uses_marks l ≡ uses

counted_marked : (uses : Bool) (n at : ℕ) (m : Result Literal ParseFault) → Has (LiteralSpeaks uses) m
    → Has (LiteralSpeaks uses) (counted n at m)
counted_marked uses n at (Ok l) is = unless (LiteralSpeaks uses) (n == most limits.Literals) _ (Ok l) (λ few. is)
counted_marked uses n at (Err e) is =
    both_err (LiteralSpeaks uses) (stands_at at e) (n == most limits.Literals) e _ e

-- the literals so far do
abbrev literals_speak : List Literal → Bool
literals_speak ls = list_any literal_uses_marks ls

-- a literal at its place does
abbrev placed_uses : Placed LiteralTree → Bool
placed_uses l = literal_tree_uses_marks l.value

module _ (r : Reach) where
  flag_marked : (is_so : Bool) (f : FlagTree) → Has (LiteralSpeaks (flag_uses_marks f)) (flag_means r is_so f)
  flag_marked is_so (RetiredFlag n) = any (LiteralSpeaks false) (base_at r n) _ (λ b. refl)
  flag_marked is_so (MarkedFlag p) = any (LiteralSpeaks true) (pointer_means r p) _ (λ t. refl)

  literal_marked : (l : LiteralTree) → Has (LiteralSpeaks (literal_tree_uses_marks l)) (literal_means r l)
  unfolding literal_means
  literal_marked (FlagLiteral f) = flag_marked true f
  literal_marked (NotLiteral f) = flag_marked false f
  literal_marked (EqualityLiteral a e b) =
      any (LiteralSpeaks false) (term_means r a) _ (λ x.
      any (LiteralSpeaks false) (second_means r x.1 b) _ (λ y. refl))

  literal_adds : (ls : List Literal) (l : Placed LiteralTree)
      → Has (λ t. literals_speak t ≡ (literals_speak ls || placed_uses l)) (literal_step r ls l)
  unfolding literal_step
  literal_adds ls l = let uses : Bool = placed_uses l in
      next (LiteralSpeaks uses) (λ t. literals_speak t ≡ (literals_speak ls || uses))
      (counted (length ls) l.at (literal_means r l.value)) _
      (counted_marked uses (length ls) l.at (literal_means r l.value) (literal_marked l.value))
      (λ x is. any_pushed literal_uses_marks ls x uses is)

-- ---- clauses

abbrev ClauseSpeaks : Bool → Clause → Type 0
ClauseSpeaks uses c = clause_uses_marks c ≡ uses

module _ (s : Scope) (ls : List Local) (in_operation : Bool) where
  clause_marked : (c : ClauseTree) → Has (ClauseSpeaks (clause_tree_uses_marks c)) (clause_means s ls in_operation c)
  unfolding clause_means
  clause_marked (Claims b l others) =
      let ours : Bool = literal_tree_uses_marks l in
      let theirs : Bool = list_any placed_uses others in
      any (ClauseSpeaks (ours || theirs)) (bound_means s ls b) _ (λ bound.
      let r = reach s ls in_operation bound in
      next (LiteralSpeaks ours) (ClauseSpeaks (ours || theirs)) (literal_means r l) _ (literal_marked r l) (λ first is.
      next (λ t. literals_speak t ≡ (literals_speak (first ∷ []) || theirs)) (ClauseSpeaks (ours || theirs))
      (in_turn (literal_step r) (first ∷ []) others) _
      (turns_marked (literal_step r) literals_speak placed_uses (literal_adds r) (first ∷ []) others) (λ all are.
      are ∙ ap (λ c. c || theirs) (or_nothing (literal_uses_marks first) ∙ is))))

-- ---- items

-- the invariants and items so far do
abbrev parts_speak : Parts → Bool
parts_speak st = list_any clause_uses_marks st.0 || list_any item_uses_marks st.1

invariant_adds : (st : Parts) (c : Clause) (uses : Bool) → clause_uses_marks c ≡ uses
    → parts_speak (st.0 ++ c ∷ [], st.1) ≡ (parts_speak st || uses)
invariant_adds st c uses is =
    ap (λ b. b || list_any item_uses_marks st.1) (any_pushed clause_uses_marks st.0 c uses is)
    ∙ or_swaps (list_any clause_uses_marks st.0) (list_any item_uses_marks st.1) uses

item_adds : (st : Parts) (site : Site) (c : Clause) (uses : Bool) → clause_uses_marks c ≡ uses
    → parts_speak (st.0, st.1 ++ record { site = site; clause = c } ∷ []) ≡ (parts_speak st || uses)
item_adds st site c uses is =
    ap (λ b. list_any clause_uses_marks st.0 || b)
    (any_pushed item_uses_marks st.1 (record { site = site; clause = c }) uses is)
    ∙ or_groups (list_any clause_uses_marks st.0) (list_any item_uses_marks st.1) uses

module _ (s : Scope) (ops : List Op) where
  step_adds : (st : Parts) (x : ItemTree)
      → Has (λ t. parts_speak t ≡ (parts_speak st || item_tree_uses_marks x)) (item_step s ops (labels_by_op ops) st x)
  unfolding item_step
  step_adds st (InvariantItem c) = let uses : Bool = clause_tree_uses_marks c in
      unless (λ t. parts_speak t ≡ (parts_speak st || uses)) (length st.0 == most limits.Invariants) _ _ (λ few.
      next (ClauseSpeaks uses) (λ t. parts_speak t ≡ (parts_speak st || uses)) (clause_means s [] false c) _
      (clause_marked s [] false c) (λ k is. invariant_adds st k uses is))
  step_adds st (OverItem name c) = let uses : Bool = clause_tree_uses_marks c in
      unless (λ t. parts_speak t ≡ (parts_speak st || uses)) (length st.1 == most limits.Items) _ _ (λ few.
      any (λ t. parts_speak t ≡ (parts_speak st || uses)) (op_at s ops name) _ (λ o.
      next (ClauseSpeaks uses) (λ t. parts_speak t ≡ (parts_speak st || uses))
      (clause_means s (locals_of ops o) true c) _ (clause_marked s (locals_of ops o) true c)
      (λ k is. item_adds st (Over (record { 0 = o })) k uses is)))
  step_adds st (AtItem name names c) = let uses : Bool = clause_tree_uses_marks c in
      unless (λ t. parts_speak t ≡ (parts_speak st || uses)) (length st.1 == most limits.Items) _ _ (λ few.
      any (λ t. parts_speak t ≡ (parts_speak st || uses)) (labels_mean s (labels_by_op ops) name names) _ (λ ls.
      next (ClauseSpeaks uses) (λ t. parts_speak t ≡ (parts_speak st || uses))
      (clause_means s (locals_of ops ls.1) true c) _ (clause_marked s (locals_of ops ls.1) true c)
      (λ k is. item_adds st (At ls.0) k uses is)))

  -- ---- the outline

  abbrev pub OutlineSpeaks : Bool → Outline → Type 0
  OutlineSpeaks uses o = outline_uses_marks o ≡ uses

  pub outline_marked : (t : OutlineTree) → Has (OutlineSpeaks (outline_tree_uses_marks t)) (outline_means s ops t)
  unfolding outline_means
  outline_marked (Outlined d items) =
      let uses : Bool = list_any item_tree_uses_marks items in
      any (OutlineSpeaks uses) (depth_means d) _ (λ depth.
      next (λ t. parts_speak t ≡ uses) (OutlineSpeaks uses) (in_turn (item_step s ops (labels_by_op ops)) ([], []) items) _
      (turns_marked (item_step s ops (labels_by_op ops)) parts_speak item_tree_uses_marks step_adds ([], []) items)
      (λ all are. are))
