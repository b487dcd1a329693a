-- What is asked of each token, and of the braces that are open at each block, holds of the normal tree's tokens where it holds of a tree's.
use Rattle.std.proofs.Common.{◌≡◌, ℕ, zero, suc, Bool, true, false, not, cond, Option, Some, None, List, [], ◌∷◌, ◌++◌, map, filter, refl, sym, ap, subst}
use Rattle.plc_lex.specs.declared.token.TokenKind.{TokenKind}
use Rattle.plc_lex.specs.declared.token.TokenKind.TheVariants.{Symbol}
use Rattle.plc_lex.specs.declared.token.Symbol.TheVariants.{OpenBrace, CloseBrace, CloseParen, Semicolon}
use Rattle.plc_syntax.specs.Trees.{Text, Placed, Pieces, kinds_of, symbol, from_place, placed_then, Comparison, comparison_symbol, each_then, maybe_then, comma_name_then, names_then, FieldTree, PointerField, DataField, field_then, shared_then, FunctionTree, Declares, function_then, WatchTree, UseHazard, UseEpoch, watch_then, OneOf, OfThreads, GhostTree, Auxiliary, ghost_then, PlaceTree, PlaceOf, place_then, AtomTree, NullAtom, NumberAtom, NameAtom, atom_then, ValueTree, NullValue, NewValue, NumberValue, MarkValue, UnmarkValue, PlaceValue, value_then, SetTree, SetName, SetField, set_then, RefreshTree, RefreshName, RefreshField, refresh_then, GhostValueTree, NameGhost, MeGhost, NoneGhost, ghost_value_then, GhostSetTree, SetGhost, ghost_set_then, InitialTree, InitialSet, InitialGhost, initial_then, init_then, TestTree, MarkedTest, UnmarkedTest, Compares, SameAs, OtherThan, LessThan, NotLessThan, test_then, name_or_null_then, ConditionTree, TestCondition, RefreshCondition, CasCondition, condition_then, PrimitiveTree, SetPrimitive, RefreshPrimitive, GhostPrimitive, ActivePrimitive, AssumePrimitive, SkipPrimitive, primitive_then, primitive_line_then, ArgumentTree, NoArgument, NullArgument, NameArgument, ActiveArgument, argument_then, during_then, StatementTree, PrimitiveStatement, AtomicStatement, CallStatement, IfStatement, ChooseStatement, LoopStatement, BreakStatement, ReturnStatement, LabelStatement, BlockTree, NoStatement, Then, ElseTree, NoElse, ElseBlock, OrTree, NoOr, OrBlock, statement_then, statements_then, else_then, or_then, parameters_then, OpTree, Operates, op_then, TermTree, PlaceTerm, NullTerm, NumberTerm, MeTerm, NoneTerm, term_then, FlagTree, RetiredFlag, MarkedFlag, flag_then, LiteralTree, FlagLiteral, NotLiteral, EqualityLiteral, literal_then, BoundTree, NoBound, AllOf, bound_then, or_literal_then, ClauseTree, Claims, clause_then, ItemTree, InvariantItem, OverItem, AtItem, item_then, depth_then, OutlineTree, Outlined, outline_then, FileTree, file_then}
use Rattle.plc_syntax.specs.Forms.{at_place}
use Rattle.plc_syntax.proofs.Pieces.{from_kinds}
use Rattle.plc_syntax.proofs.Unplaced.{unplaced, unplaced_by, unplaced_maybe, unplaced_names, unplaced_label, unplaced_field, unplaced_function, unplaced_watch, unplaced_ghost, unplaced_place, unplaced_atom, unplaced_value, unplaced_set, unplaced_refresh, unplaced_ghost_value, unplaced_ghost_set, unplaced_initial, unplaced_sets, unplaced_test, unplaced_condition, unplaced_primitive, unplaced_argument, unplaced_statement, unplaced_block, unplaced_else, unplaced_ors, unplaced_op, unplaced_term, unplaced_flag, unplaced_literal, unplaced_bound, unplaced_clause, unplaced_item, unplaced_outline, unplaced_file}
use Rattle.plc_syntax.proofs.Braced.{Fine as Braced, down as closed_down, up as closed_up}
use Rattle.plc_print.specs.Outlines.{unless_empty}
use Rattle.plc_print.proofs.NormalTrees.{stays, normal_statement, normal_block, normal_else, normal_or, normal_starts, normal_op, is_invariant, normal_items, nonzero, normal_depth, normal_outline, normal_file}

module _ (K : TokenKind → Type 0) (D : ℕ → Type 0) where
  -- the braces of these tokens are fine
  abbrev Fine : ℕ → ℕ → Bool → Pieces → Type 0
  Fine o c a ts = Braced K D o c a (kinds_of ts)

  down : (o c : ℕ) (a : Bool) (ts : Pieces) → Fine (suc o) (suc c) a ts → Fine o c a ts
  down o c a ts h = closed_down K D o c a (kinds_of ts) h

  up : (o c : ℕ) (a : Bool) (ts : Pieces) → Fine o c a ts → Fine (suc o) (suc c) a ts
  up o c a ts h = closed_up K D o c a (kinds_of ts) h

  -- the second tree in place of the first, where what follows may be replaced
  abbrev Kept : {X : Type 0} → (X → Pieces → Pieces) → X → X → Type 0
  Kept x_then x y = (o c : ℕ) (r s : Pieces) → (Fine o c false r → Fine o c false s) → Fine o c false (x_then x r) → Fine o c false (x_then y s)

  -- in braces, of a block or after `atomic`
  in_braces : {X : Type 0} (x_then : X → Pieces → Pieces) (x y : X) → Kept x_then x y → (a : Bool) (o c : ℕ) (r s : Pieces) → (Fine o c false r → Fine o c false s)
      → Fine o c a (symbol OpenBrace ∷ x_then x (symbol CloseBrace ∷ r)) → Fine o c a (symbol OpenBrace ∷ x_then y (symbol CloseBrace ∷ s))
  in_braces x_then x y kept a o c r s k h = (h.0, kept (suc o) c (symbol CloseBrace ∷ r) (symbol CloseBrace ∷ s) (λ g. up o c false s (k (down o c false r g))) h.1)

  each_kept : {X : Type 0} (x_then : X → Pieces → Pieces) (bare_of : X → X) → ((x : X) → Kept x_then x (bare_of x)) → (xs : List X) → Kept (each_then x_then) xs (map bare_of xs)
  each_kept x_then bare_of one [] o c r s k h = k h
  each_kept x_then bare_of one (x ∷ xs) o c r s k h = one x o c _ _ (each_kept x_then bare_of one xs o c r s k) h

  maybe_kept : {X : Type 0} (x_then : X → Pieces → Pieces) (bare_of : X → X) → ((x : X) → Kept x_then x (bare_of x)) → (x : Option X) → Kept (maybe_then x_then) x (unplaced_maybe bare_of x)
  maybe_kept x_then bare_of one None o c r s k h = k h
  maybe_kept x_then bare_of one (Some x) o c r s k h = one x o c r s k h

  -- tokens at their places
  at_kept : (o c at place : ℕ) (ts us : Pieces) → (Fine o c false ts → Fine o c false us) → Fine o c false (from_place at ts) → Fine o c false (from_place place us)
  at_kept o c at place ts us k h = subst (Braced K D o c false) (sym (from_kinds place us)) (k (subst (Braced K D o c false) (from_kinds at ts) h))

  placed_kept : {X : Type 0} (x_then : X → Pieces → Pieces) (bare_of : X → X) → ((x : X) → Kept x_then x (bare_of x)) → (x : Placed X) → Kept (placed_then x_then) x (unplaced_by bare_of x)
  placed_kept x_then bare_of one x o c r s k h = at_kept o c x.at 0 (x_then x.value r) (x_then (bare_of x.value) s) (one x.value o c r s k) h

  -- ---- forms without braces, which may be moved

  -- a tree that may stand before whatever is fine
  abbrev Stands : {X : Type 0} → (X → Pieces → Pieces) → X → Type 0
  Stands x_then x = (o c : ℕ) (s : Pieces) → Fine o c false s → Fine o c false (x_then x s)

  -- where the first tree stands the second may stand anywhere, and what follows is fine
  abbrev Moved : {X : Type 0} → (X → Pieces → Pieces) → X → X → Type 0
  Moved x_then x y = (o c : ℕ) (r : Pieces) → Fine o c false (x_then x r) → Stands x_then y × Fine o c false r

  moved_kept : {X : Type 0} (x_then : X → Pieces → Pieces) (x y : X) → Moved x_then x y → Kept x_then x y
  moved_kept x_then x y moved o c r s k h = let a = moved o c r h in a.0 o c s (k a.1)

  each_moved : {X : Type 0} (x_then : X → Pieces → Pieces) (bare_of : X → X) → ((x : X) → Moved x_then x (bare_of x)) → (xs : List X) → Moved (each_then x_then) xs (map bare_of xs)
  each_moved x_then bare_of one [] o c r h = (λ p q s k. k, h)
  each_moved x_then bare_of one (x ∷ xs) o c r h = let a = one x o c _ h in let b = each_moved x_then bare_of one xs o c r a.1 in (λ p q s k. a.0 p q _ (b.0 p q s k), b.1)

  names_moved : (n : Placed Text) (ns : List (Placed Text)) → Moved (names_then n) ns (unplaced_names ns)
  names_moved n ns o c r h = let a = each_moved comma_name_then unplaced (λ m o c r h. (λ p q s k. (h.0, k), h.1)) ns o c r h.1 in (λ p q s k. (h.0, a.0 p q s k), a.1)

  place_moved : (x : PlaceTree) → Moved place_then x (unplaced_place x)
  place_moved (PlaceOf n None) o c r h = (λ p q s k. (h.0, k), h.1)
  place_moved (PlaceOf n (Some f)) o c r h = (λ p q s k. (h.0, (h.1.0, k)), h.1.1)

  place_kept : (x : PlaceTree) → Kept place_then x (unplaced_place x)
  place_kept x = moved_kept place_then x (unplaced_place x) (place_moved x)

  -- ---- declarations

  field_kept : (f : FieldTree) → Kept field_then f (unplaced_field f)
  field_kept (PointerField n) o c r s k h = (h.0, k h.1)
  field_kept (DataField n) o c r s k h = (h.0, k h.1)

  shared_kept : (n : Placed Text) → Kept shared_then n (unplaced n)
  shared_kept n o c r s k h = (h.0, k h.1)

  function_kept : (f : FunctionTree) → Kept function_then f (unplaced_function f)
  function_kept (Declares n true) o c r s k h = (h.0, k h.1)
  function_kept (Declares n false) o c r s k h = (h.0, k h.1)

  watch_kept : (w : WatchTree) → Kept watch_then w (unplaced_watch w)
  watch_kept (UseHazard f) o c r s k h = (h.0, k h.1)
  watch_kept (UseEpoch f g) o c r s k h = (h.0, (h.1.0, k h.1.1))

  ghost_kept : (g : GhostTree) → Kept ghost_then g (unplaced_ghost g)
  ghost_kept (Auxiliary n OfThreads) o c r s k h = (h.0, k h.1)
  ghost_kept (Auxiliary n (OneOf v vs)) o c r s k h = (h.0, in_braces (names_then v) vs (unplaced_names vs) (moved_kept (names_then v) vs (unplaced_names vs) (names_moved v vs)) false o c _ _ k h.1)

  -- ---- forms

  atom_kept : (a : AtomTree) → Kept atom_then a (unplaced_atom a)
  atom_kept (NullAtom i) o c r s k h = k h
  atom_kept (NumberAtom n) o c r s k h = (h.0, k h.1)
  atom_kept (NameAtom n) o c r s k h = (h.0, k h.1)

  value_kept : (v : ValueTree) → Kept value_then v (unplaced_value v)
  value_kept (NullValue i) o c r s k h = k h
  value_kept (NewValue i) o c r s k h = k h
  value_kept (NumberValue n) o c r s k h = (h.0, k h.1)
  value_kept (MarkValue i n) o c r s k h = (h.0, k h.1)
  value_kept (UnmarkValue i n) o c r s k h = (h.0, k h.1)
  value_kept (PlaceValue p) o c r s k h = place_kept p o c r s k h

  set_kept : (x : SetTree) → Kept set_then x (unplaced_set x)
  set_kept (SetName n v) o c r s k h = (h.0, value_kept v o c r s k h.1)
  set_kept (SetField n f a) o c r s k h = (h.0, (h.1.0, atom_kept a o c r s k h.1.1))

  refresh_kept : (x : RefreshTree) → Kept refresh_then x (unplaced_refresh x)
  refresh_kept (RefreshName n p) o c r s k h = (h.0, place_kept p o c r s k h.1)
  refresh_kept (RefreshField n f q) o c r s k h = (h.0, (h.1.0, (h.1.1.0, k h.1.1.1)))

  ghost_value_kept : (v : GhostValueTree) → Kept ghost_value_then v (unplaced_ghost_value v)
  ghost_value_kept (NameGhost n) o c r s k h = (h.0, k h.1)
  ghost_value_kept (MeGhost i) o c r s k h = k h
  ghost_value_kept (NoneGhost i) o c r s k h = k h

  ghost_set_kept : (x : GhostSetTree) → Kept ghost_set_then x (unplaced_ghost_set x)
  ghost_set_kept (SetGhost n g v) o c r s k h = (h.0, (h.1.0, ghost_value_kept v o c r s k h.1.1))

  initial_kept : (i : InitialTree) → Kept initial_then i (unplaced_initial i)
  initial_kept (InitialSet x) o c r s k h = set_kept x o c _ _ k h
  initial_kept (InitialGhost x) o c r s k h = ghost_set_kept x o c _ _ k h

  test_kept : (t : TestTree) → Kept test_then t (unplaced_test t)
  test_kept (MarkedTest n) o c r s k h = (h.0, k h.1)
  test_kept (UnmarkedTest n) o c r s k h = (h.0, k h.1)
  test_kept (Compares n d a) o c r s k h = (h.0, atom_after d.value h.1)
    where
      atom_after : (e : Comparison) → Braced K D o c false (Symbol (comparison_symbol e) ∷ kinds_of (atom_then a r)) → Braced K D o c false (Symbol (comparison_symbol e) ∷ kinds_of (atom_then (unplaced_atom a) s))
      atom_after SameAs g = atom_kept a o c r s k g
      atom_after OtherThan g = atom_kept a o c r s k g
      atom_after LessThan g = atom_kept a o c r s k g
      atom_after NotLessThan g = atom_kept a o c r s k g

  name_or_null_kept : (n : Option (Placed Text)) → Kept name_or_null_then n (unplaced_label n)
  name_or_null_kept None o c r s k h = k h
  name_or_null_kept (Some n) o c r s k h = (h.0, k h.1)

  condition_kept : (x : ConditionTree) → Kept condition_then x (unplaced_condition x)
  condition_kept (TestCondition t) o c r s k h = test_kept t o c r s k h
  condition_kept (RefreshCondition n p) o c r s k h = (h.0, place_kept p o c r s k h.1)
  condition_kept (CasCondition true n p q) o c r s k h = (h.0, name_or_null_kept p o c _ _ (λ g. name_or_null_kept q o c _ _ k g) h.1)
  condition_kept (CasCondition false n p q) o c r s k h = (h.0, name_or_null_kept p o c _ _ (λ g. name_or_null_kept q o c _ _ k g) h.1)

  primitive_kept : (p : PrimitiveTree) → Kept primitive_then p (unplaced_primitive p)
  primitive_kept (SetPrimitive x) o c r s k h = set_kept x o c r s k h
  primitive_kept (RefreshPrimitive x) o c r s k h = refresh_kept x o c r s k h
  primitive_kept (GhostPrimitive x) o c r s k h = ghost_set_kept x o c r s k h
  primitive_kept (ActivePrimitive n) o c r s k h = (h.0, k h.1)
  primitive_kept (AssumePrimitive t) o c r s k h = test_kept t o c r s k h
  primitive_kept SkipPrimitive o c r s k h = k h

  argument_kept : (a : ArgumentTree) → Kept argument_then a (unplaced_argument a)
  argument_kept NoArgument o c r s k h = k h
  argument_kept NullArgument o c r s k h = k h
  argument_kept (NameArgument n) o c r s k h = (h.0, k h.1)
  argument_kept (ActiveArgument n) o c r s k h = (h.0, k h.1)

  during_kept : (n : Placed Text) → Kept during_then n (unplaced n)
  during_kept n o c r s k h = (h.0, k h.1)

  -- ---- statements

  -- the primitives of an atomic block that stay
  abbrev staying : List (Placed PrimitiveTree) → List (Placed PrimitiveTree)
  staying ps = map (unplaced_by unplaced_primitive) (filter (λ p. stays p.value) ps)

  primitives_kept : (ps : List (Placed PrimitiveTree)) → Kept (each_then (placed_then primitive_line_then)) ps (staying ps)
  primitives_kept [] o c r s k h = k h
  primitives_kept (p ∷ ps) o c r s k h = by (primitives_kept ps o c r s k) p.value h
    where
      by : (Fine o c false (each_then (placed_then primitive_line_then) ps r) → Fine o c false (each_then (placed_then primitive_line_then) (staying ps) s))
          → (v : PrimitiveTree) → Fine o c false (from_place p.at (primitive_line_then v (each_then (placed_then primitive_line_then) ps r)))
          → Fine o c false (each_then (placed_then primitive_line_then) (staying (at_place p.at v ∷ ps)) s)
      by others SkipPrimitive g = others g
      by others (SetPrimitive x) g = at_kept o c p.at 0 (primitive_line_then (SetPrimitive x) (each_then (placed_then primitive_line_then) ps r)) (primitive_line_then (unplaced_primitive (SetPrimitive x)) (each_then (placed_then primitive_line_then) (staying ps) s))
          (set_kept x o c (symbol Semicolon ∷ each_then (placed_then primitive_line_then) ps r) (symbol Semicolon ∷ each_then (placed_then primitive_line_then) (staying ps) s) others) g
      by others (RefreshPrimitive x) g = at_kept o c p.at 0 (primitive_line_then (RefreshPrimitive x) (each_then (placed_then primitive_line_then) ps r)) (primitive_line_then (unplaced_primitive (RefreshPrimitive x)) (each_then (placed_then primitive_line_then) (staying ps) s))
          (refresh_kept x o c (symbol Semicolon ∷ each_then (placed_then primitive_line_then) ps r) (symbol Semicolon ∷ each_then (placed_then primitive_line_then) (staying ps) s) others) g
      by others (GhostPrimitive x) g = at_kept o c p.at 0 (primitive_line_then (GhostPrimitive x) (each_then (placed_then primitive_line_then) ps r)) (primitive_line_then (unplaced_primitive (GhostPrimitive x)) (each_then (placed_then primitive_line_then) (staying ps) s))
          (ghost_set_kept x o c (symbol Semicolon ∷ each_then (placed_then primitive_line_then) ps r) (symbol Semicolon ∷ each_then (placed_then primitive_line_then) (staying ps) s) others) g
      by others (ActivePrimitive n) g = (g.0, others g.1)
      by others (AssumePrimitive t) g = test_kept t o c (symbol Semicolon ∷ each_then (placed_then primitive_line_then) ps r) (symbol Semicolon ∷ each_then (placed_then primitive_line_then) (staying ps) s) others g

  mutual
    statement_kept : (x : StatementTree) → Kept statement_then x (unplaced_statement (normal_statement x))
    statement_kept (PrimitiveStatement p) o c r s k h = primitive_kept p o c _ _ k h
    statement_kept (AtomicStatement ps) o c r s k h = in_braces (each_then (placed_then primitive_line_then)) ps (staying ps) (primitives_kept ps) true o c r s k h
    statement_kept (CallStatement n a d) o c r s k h = (h.0, argument_kept a o c _ _ (λ g. maybe_kept during_then unplaced during_kept d o c _ _ k g) h.1)
    statement_kept (IfStatement x b e) o c r s k h = condition_kept x o c _ _ (λ g. in_braces statements_then b (unplaced_block (normal_block b)) (block_kept b) false o c _ _ (λ i. else_kept e o c r s k i) g) h
    statement_kept (ChooseStatement a b os) o c r s k h =
        in_braces statements_then a (unplaced_block (normal_block a)) (block_kept a) false o c _ _ (λ g. in_braces statements_then b (unplaced_block (normal_block b)) (block_kept b) false o c _ _ (λ i. or_kept os o c r s k i) g) h
    statement_kept (LoopStatement b) o c r s k h = in_braces statements_then b (unplaced_block (normal_block b)) (block_kept b) false o c r s k h
    statement_kept BreakStatement o c r s k h = k h
    statement_kept ReturnStatement o c r s k h = k h
    statement_kept (LabelStatement n) o c r s k h = (h.0, k h.1)

    block_kept : (b : BlockTree) → Kept statements_then b (unplaced_block (normal_block b))
    block_kept NoStatement o c r s k h = k h
    block_kept (Then at x b) o c r s k h =
        let after = statements_then b r in
        let kept = statements_then (unplaced_block (normal_block b)) s in
        at_kept o c at 0 (statement_then x after) (statement_then (unplaced_statement (normal_statement x)) kept) (statement_kept x o c after kept (λ g. block_kept b o c r s k g)) h

    else_kept : (e : ElseTree) → Kept else_then e (unplaced_else (normal_else e))
    else_kept NoElse o c r s k h = k h
    else_kept (ElseBlock NoStatement) o c r s k h = k (down o c false r h.1)
    else_kept (ElseBlock (Then at x b)) o c r s k h = in_braces statements_then (Then at x b) (unplaced_block (normal_block (Then at x b))) (block_kept (Then at x b)) false o c r s k h

    or_kept : (os : OrTree) → Kept or_then os (unplaced_ors (normal_or os))
    or_kept NoOr o c r s k h = k h
    or_kept (OrBlock b os) o c r s k h = in_braces statements_then b (unplaced_block (normal_block b)) (block_kept b) false o c _ _ (λ g. or_kept os o c r s k g) h

  -- ---- the outline

  term_moved : (t : TermTree) → Moved term_then t (unplaced_term t)
  term_moved (PlaceTerm x) o c r h = place_moved x o c r h
  term_moved (NullTerm i) o c r h = (λ p q s k. k, h)
  term_moved (NumberTerm n) o c r h = (λ p q s k. (h.0, k), h.1)
  term_moved (MeTerm i) o c r h = (λ p q s k. k, h)
  term_moved (NoneTerm i) o c r h = (λ p q s k. k, h)

  flag_moved : (f : FlagTree) → Moved flag_then f (unplaced_flag f)
  flag_moved (RetiredFlag n) o c r h = (λ p q s k. (h.0, k), h.1)
  flag_moved (MarkedFlag x) o c r h =
      let y = place_moved x o c (symbol CloseParen ∷ r) h in (λ p q s k. y.0 p q (symbol CloseParen ∷ s) k, y.1)

  literal_moved : (l : LiteralTree) → Moved literal_then l (unplaced_literal l)
  literal_moved (FlagLiteral f) o c r h = flag_moved f o c r h
  literal_moved (NotLiteral f) o c r h = flag_moved f o c r h
  literal_moved (EqualityLiteral a true b) o c r h = let x = term_moved a o c _ h in let y = term_moved b o c r x.1 in (λ p q s k. x.0 p q _ (y.0 p q s k), y.1)
  literal_moved (EqualityLiteral a false b) o c r h = let x = term_moved a o c _ h in let y = term_moved b o c r x.1 in (λ p q s k. x.0 p q _ (y.0 p q s k), y.1)

  or_literal_moved : (l : Placed LiteralTree) → Moved or_literal_then l (unplaced_by unplaced_literal l)
  or_literal_moved l o c r h =
      let a = literal_moved l.value o c r (subst (Braced K D o c false) (from_kinds l.at (literal_then l.value r)) h) in
      (λ p q s k. subst (Braced K D p q false) (sym (from_kinds 0 (literal_then (unplaced_literal l.value) s))) (a.0 p q s k), a.1)

  bound_moved : (b : BoundTree) → Moved bound_then b (unplaced_bound b)
  bound_moved NoBound o c r h = (λ p q s k. k, h)
  bound_moved (AllOf n None) o c r h = (λ p q s k. (h.0, k), h.1)
  bound_moved (AllOf n (Some m)) o c r h = (λ p q s k. (h.0, (h.1.0, k)), h.1.1)

  clause_moved : (x : ClauseTree) → Moved clause_then x (unplaced_clause x)
  clause_moved (Claims b l ls) o c r h =
      let x = bound_moved b o c _ h in
      let y = literal_moved l o c _ x.1 in
      let z = each_moved or_literal_then (unplaced_by unplaced_literal) or_literal_moved ls o c r y.1 in
      (λ p q s k. x.0 p q _ (y.0 p q _ (z.0 p q s k)), z.1)

  item_moved : (x : ItemTree) → Moved item_then x (unplaced_item x)
  item_moved (InvariantItem x) o c r h = let a = clause_moved x o c _ h in (λ p q s k. a.0 p q _ k, a.1)
  item_moved (OverItem n x) o c r h = let a = clause_moved x o c _ h.1 in (λ p q s k. (h.0, a.0 p q _ k), a.1)
  item_moved (AtItem n ns x) o c r h = let a = names_moved n ns o c _ h in let b = clause_moved x o c _ a.1 in (λ p q s k. a.0 p q _ (b.0 p q _ k), b.1)

  -- an item that is chosen, or is not
  chosen : (b : Bool) (x : ItemTree) (xs : List ItemTree) → Stands item_then (unplaced_item x) → Stands (each_then item_then) (map unplaced_item xs) → Stands (each_then item_then) (map unplaced_item (cond b (x ∷ xs) xs))
  chosen true x xs one others o c s k = one o c (each_then item_then (map unplaced_item xs) s) (others o c s k)
  chosen false x xs one others o c s k = others o c s k

  chosen_moved : (f : ItemTree → Bool) (xs : List ItemTree) → Moved (each_then item_then) xs (map unplaced_item (filter f xs))
  chosen_moved f [] o c r h = (λ p q s k. k, h)
  chosen_moved f (x ∷ xs) o c r h = let a = item_moved x o c _ h in let b = chosen_moved f xs o c r a.1 in (chosen (f x) x (filter f xs) a.0 b.0, b.1)

  -- items after items
  joined : (xs ys : List ItemTree) (s : Pieces) → each_then item_then (map unplaced_item xs) (each_then item_then (map unplaced_item ys) s) ≡ each_then item_then (map unplaced_item (xs ++ ys)) s
  joined [] ys s = refl
  joined (x ∷ xs) ys s = ap (item_then (unplaced_item x)) (joined xs ys s)

  items_moved : (xs : List ItemTree) → Moved (each_then item_then) xs (map unplaced_item (normal_items xs))
  items_moved xs o c r h =
      let invariants = filter is_invariant xs in
      let others = filter (λ (x : ItemTree). not (is_invariant x)) xs in
      let a = chosen_moved is_invariant xs o c r h in
      let b = chosen_moved (λ (x : ItemTree). not (is_invariant x)) xs o c r h in
      (λ p q s k. subst (Fine p q false) (joined invariants others s) (a.0 p q (each_then item_then (map unplaced_item others) s) (b.0 p q s k)), b.1)

  depth_moved : (d : Option (Placed ℕ)) → Moved (maybe_then depth_then) d (unplaced_maybe unplaced (normal_depth d))
  depth_moved None o c r h = (λ p q s k. k, h)
  depth_moved (Some d) o c r h = by d.value h
    where
      by : (n : ℕ) → Fine o c false (depth_then (at_place d.at n) r) → Stands (maybe_then depth_then) (unplaced_maybe unplaced (nonzero d.at n)) × Fine o c false r
      by zero g = (λ p q s k. k, g.1)
      by (suc n) g = (λ p q s k. (g.0, k), g.1)

  -- it may be left out where what follows is fine
  unless_empty_fine : (d : Option (Placed ℕ)) (xs : List ItemTree) (o c : ℕ) (s : Pieces) → Fine o c false s → Fine o c false (outline_then (unplaced_outline (Outlined d xs)) s) → Fine o c false (maybe_then outline_then (unplaced_maybe unplaced_outline (unless_empty d xs)) s)
  unless_empty_fine None [] o c s without with_it = without
  unless_empty_fine None (x ∷ xs) o c s without with_it = with_it
  unless_empty_fine (Some d) xs o c s without with_it = with_it

  outline_kept : (x : Option OutlineTree) → Kept (maybe_then outline_then) x (unplaced_maybe unplaced_outline (normal_outline x))
  outline_kept None o c r s k h = k h
  outline_kept (Some (Outlined d xs)) o c r s k h =
      let a = depth_moved d (suc o) c _ h.1 in
      let b = items_moved xs (suc o) c (symbol CloseBrace ∷ r) a.1 in
      let after : Fine o c false s = k (down o c false r b.1) in
      unless_empty_fine (normal_depth d) (normal_items xs) o c s after (h.0, a.0 (suc o) c _ (b.0 (suc o) c (symbol CloseBrace ∷ s) (up o c false s after)))

  -- ---- the file

  parameters_kept : (ps : List (Placed Text)) → Kept parameters_then ps (unplaced_names ps)
  parameters_kept [] o c r s k h = k h
  parameters_kept (n ∷ ns) o c r s k h = moved_kept (names_then n) ns (unplaced_names ns) (names_moved n ns) o c r s k h

  -- the locals and the statements of an operation
  abbrev inside_then : List FieldTree × BlockTree → Pieces → Pieces
  inside_then x us = each_then field_then x.0 (statements_then x.1 us)

  op_kept : (x : OpTree) → Kept op_then x (unplaced_op (normal_op x))
  op_kept (Operates n ps ls b) o c r s k h = (
    h.0,
    parameters_kept ps o c _ _ (λ g. in_braces inside_then (ls, b) (map unplaced_field ls, unplaced_block (normal_block b))
        (λ p q t u m i. each_kept field_then unplaced_field field_kept ls p q _ _ (λ j. block_kept b p q t u m j) i) false o c r s k g) h.1,
  )

  ops_kept : (xs : List (Placed OpTree)) → Kept (each_then (placed_then op_then)) xs (map (unplaced_by unplaced_op) (map (λ x. at_place x.at (normal_op x.value)) xs))
  ops_kept [] o c r s k h = k h
  ops_kept (x ∷ xs) o c r s k h =
      let after = each_then (placed_then op_then) xs r in
      let kept = each_then (placed_then op_then) (map (unplaced_by unplaced_op) (map (λ (y : Placed OpTree). at_place y.at (normal_op y.value)) xs)) s in
      at_kept o c x.at 0 (op_then x.value after) (op_then (unplaced_op (normal_op x.value)) kept) (op_kept x.value o c after kept (λ g. ops_kept xs o c r s k g)) h

  starts_kept : (x : Option (List (Placed InitialTree))) → Kept (maybe_then init_then) x (unplaced_maybe unplaced_sets (normal_starts x))
  starts_kept None o c r s k h = k h
  starts_kept (Some []) o c r s k h = k (down o c false r h.1)
  starts_kept (Some (i ∷ is)) o c r s k h =
      in_braces (each_then (placed_then initial_then)) (i ∷ is) (unplaced_sets (i ∷ is)) (each_kept (placed_then initial_then) (unplaced_by unplaced_initial) (placed_kept initial_then unplaced_initial initial_kept) (i ∷ is)) false o c r s k h

  pub file_kept : (f : FileTree) → Fine 0 0 false (file_then f []) → Fine 0 0 false (file_then (unplaced_file (normal_file f)) [])
  file_kept f h = (
    h.0,
    in_braces (each_then field_then) f.fields (map unplaced_field f.fields) (each_kept field_then unplaced_field field_kept f.fields) false 0 0 _ _ (λ a.
        each_kept shared_then unplaced shared_kept f.pointers 0 0 _ _ (λ b.
        each_kept function_then unplaced_function function_kept f.functions 0 0 _ _ (λ d.
        maybe_kept watch_then unplaced_watch watch_kept f.watched 0 0 _ _ (λ w.
        each_kept ghost_then unplaced_ghost ghost_kept f.ghosts 0 0 _ _ (λ g.
        starts_kept f.starts 0 0 _ _ (λ i.
        ops_kept f.ops 0 0 _ _ (λ o.
        outline_kept f.outlined 0 0 [] [] (λ e. tt) o) i) g) w) d) b) a) h.1,
  )
