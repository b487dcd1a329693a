-- How deep blocks stand is how many braces are open before them: form by form, each form's tokens before any others.
use Rattle.std.proofs.Common.{◌≡◌, ℕ, zero, suc, ◌+◌, ◌-◌, ◌≤◌, Bool, true, false, cond, nat_le, Option, Some, None, List, [], ◌∷◌, refl, sym, ap, subst, ◌∙◌, arith, leb-true, leb-false}
use Rattle.std.specs.Prelude.{max}
use Rattle.std.proofs.Math.Nat.{le-max_left, le-max_right, max-le}
use Rattle.plc_lex.specs.declared.token.TokenKind.{TokenKind}
use Rattle.plc_lex.specs.declared.token.TokenKind.TheVariants.{Word, Name, Number, Symbol}
use Rattle.plc_lex.specs.declared.token.Symbol.TheVariants.{OpenBrace, CloseBrace, CloseParen, Semicolon}
use Rattle.plc_syntax.specs.Trees.{Text, Placed, Pieces, kinds_of, symbol, placed_then, Comparison, comparison_symbol, each_then, maybe_then, comma_name_then, names_then, FieldTree, PointerField, DataField, field_then, shared_then, FunctionTree, Declares, function_then, WatchTree, UseHazard, UseEpoch, watch_then, OneOf, OfThreads, GhostTree, Auxiliary, ghost_then, PlaceTree, PlaceOf, place_then, AtomTree, NullAtom, NumberAtom, NameAtom, atom_then, ValueTree, NullValue, NewValue, NumberValue, MarkValue, UnmarkValue, PlaceValue, value_then, SetTree, SetName, SetField, set_then, RefreshTree, RefreshName, RefreshField, refresh_then, GhostValueTree, NameGhost, MeGhost, NoneGhost, ghost_value_then, GhostSetTree, SetGhost, ghost_set_then, InitialTree, InitialSet, InitialGhost, initial_then, init_then, TestTree, MarkedTest, UnmarkedTest, Compares, SameAs, OtherThan, LessThan, NotLessThan, test_then, name_or_null_then, ConditionTree, TestCondition, RefreshCondition, CasCondition, condition_then, PrimitiveTree, SetPrimitive, RefreshPrimitive, GhostPrimitive, ActivePrimitive, AssumePrimitive, SkipPrimitive, primitive_then, primitive_line_then, ArgumentTree, NoArgument, NullArgument, NameArgument, ActiveArgument, argument_then, during_then, StatementTree, PrimitiveStatement, AtomicStatement, CallStatement, IfStatement, ChooseStatement, LoopStatement, BreakStatement, ReturnStatement, LabelStatement, BlockTree, NoStatement, Then, ElseTree, NoElse, ElseBlock, OrTree, NoOr, OrBlock, statement_then, statements_then, else_then, or_then, parameters_then, OpTree, Operates, op_then, TermTree, PlaceTerm, NullTerm, NumberTerm, MeTerm, NoneTerm, term_then, FlagTree, RetiredFlag, MarkedFlag, flag_then, LiteralTree, FlagLiteral, NotLiteral, EqualityLiteral, literal_then, BoundTree, NoBound, AllOf, bound_then, or_literal_then, ClauseTree, Claims, clause_then, ItemTree, InvariantItem, OverItem, AtItem, item_then, depth_then, OutlineTree, Outlined, outline_then, FileTree, file_tokens}
use Rattle.plc_syntax.specs.Nesting.{nesting_limit}
use Rattle.plc_syntax.specs.Depth.{statement_depth, block_depth, else_depth, or_depth, op_depth, ops_depth, file_depth, DepthIsThatOfBraces}
use Rattle.plc_syntax.proofs.Pieces.{from_kinds}
use Rattle.plc_syntax.proofs.Braced.{is_atomic, Fine, AnyToken, Shallow, shallow_tokens, tokens_shallow}

-- the most braces that are open before the brace of a block, where so many were opened and closed before and the token before may be `atomic`
abbrev deepest : ℕ → ℕ → Bool → List TokenKind → ℕ
deepest o c a [] = 0
deepest o c a (Name n ∷ ts) = deepest o c false ts
deepest o c a (Number n ∷ ts) = deepest o c false ts
deepest o c a (Word w ∷ ts) = deepest o c (is_atomic w) ts
deepest o c a (Symbol OpenBrace ∷ ts) = max (cond a 0 (o - c)) (deepest (suc o) c false ts)
deepest o c a (Symbol CloseBrace ∷ ts) = deepest o (suc c) false ts
deepest o c a (Symbol _ ∷ ts) = deepest o c false ts

-- one brace more of each kind is none
shift : (o c : ℕ) (a : Bool) (ts : List TokenKind) → deepest (suc o) (suc c) a ts ≡ deepest o c a ts
shift o c a [] = refl
shift o c a (Name n ∷ ts) = shift o c false ts
shift o c a (Number n ∷ ts) = shift o c false ts
shift o c a (Word w ∷ ts) = shift o c (is_atomic w) ts
shift o c a (Symbol OpenBrace ∷ ts) =
    let same : suc o - suc c ≡ o - c = omega arith in ap (λ k. max (cond a 0 k) (deepest (suc (suc o)) (suc c) false ts)) same ∙ ap (max (cond a 0 (o - c))) (shift (suc o) c false ts)
shift o c a (Symbol CloseBrace ∷ ts) = shift o (suc c) false ts
shift o c a (Symbol _ ∷ ts) = shift o c false ts

-- ---- the tokens in which no block stands too deep

fine_deepest : (o c : ℕ) (a : Bool) (ts : List TokenKind) → Fine AnyToken Shallow o c a ts → deepest o c a ts ≤ nesting_limit
fine_deepest o c a [] h = omega arith
fine_deepest o c a (Name n ∷ ts) h = fine_deepest o c false ts h.1
fine_deepest o c a (Number n ∷ ts) h = fine_deepest o c false ts h.1
fine_deepest o c a (Word w ∷ ts) h = fine_deepest o c (is_atomic w) ts h
fine_deepest o c true (Symbol OpenBrace ∷ ts) h = max-le (omega arith) (fine_deepest (suc o) c false ts h.1)
fine_deepest o c false (Symbol OpenBrace ∷ ts) h = max-le (h.0 refl) (fine_deepest (suc o) c false ts h.1)
fine_deepest o c a (Symbol CloseBrace ∷ ts) h = fine_deepest o (suc c) false ts h
fine_deepest o c a (Symbol _ ∷ ts) h = fine_deepest o c false ts h

deepest_fine : (o c : ℕ) (a : Bool) (ts : List TokenKind) → deepest o c a ts ≤ nesting_limit → Fine AnyToken Shallow o c a ts
deepest_fine o c a [] h = tt
deepest_fine o c a (Name n ∷ ts) h = (tt, deepest_fine o c false ts h)
deepest_fine o c a (Number n ∷ ts) h = (tt, deepest_fine o c false ts h)
deepest_fine o c a (Word w ∷ ts) h = deepest_fine o c (is_atomic w) ts h
deepest_fine o c true (Symbol OpenBrace ∷ ts) h = let more = le-max_right 0 (deepest (suc o) c false ts) in (λ e. absurd cc, deepest_fine (suc o) c false ts (omega arith))
deepest_fine o c false (Symbol OpenBrace ∷ ts) h =
    let here = le-max_left (o - c) (deepest (suc o) c false ts) in
    let more = le-max_right (o - c) (deepest (suc o) c false ts) in
    (λ e. omega arith, deepest_fine (suc o) c false ts (omega arith))
deepest_fine o c a (Symbol CloseBrace ∷ ts) h = deepest_fine o (suc c) false ts h
deepest_fine o c a (Symbol _ ∷ ts) h = deepest_fine o c false ts h

-- ---- forms without blocks

-- the tokens of a tree add nothing to what is open at the blocks after it
abbrev Flat : {X : Type 0} → (X → Pieces → Pieces) → X → Type 0
Flat x_then x = (o c : ℕ) (r : Pieces) → deepest o c false (kinds_of (x_then x r)) ≡ deepest o c false (kinds_of r)

each_flat : {X : Type 0} (x_then : X → Pieces → Pieces) → ((x : X) → Flat x_then x) → (xs : List X) → Flat (each_then x_then) xs
each_flat x_then one [] o c r = refl
each_flat x_then one (x ∷ xs) o c r = one x o c _ ∙ each_flat x_then one xs o c r

maybe_flat : {X : Type 0} (x_then : X → Pieces → Pieces) → ((x : X) → Flat x_then x) → (x : Option X) → Flat (maybe_then x_then) x
maybe_flat x_then one None o c r = refl
maybe_flat x_then one (Some x) o c r = one x o c r

-- a form at its place
placed_flat : {X : Type 0} (x_then : X → Pieces → Pieces) → ((x : X) → Flat x_then x) → (x : Placed X) → Flat (placed_then x_then) x
placed_flat x_then one x o c r = ap (deepest o c false) (from_kinds x.at (x_then x.value r)) ∙ one x.value o c r

names_flat : (n : Placed Text) (ns : List (Placed Text)) → Flat (names_then n) ns
names_flat n ns o c r = each_flat comma_name_then (λ m o c r. refl) ns o c r

place_flat : (x : PlaceTree) → Flat place_then x
place_flat (PlaceOf n None) o c r = refl
place_flat (PlaceOf n (Some f)) o c r = refl

field_flat : (f : FieldTree) → Flat field_then f
field_flat (PointerField n) o c r = refl
field_flat (DataField n) o c r = refl

function_flat : (f : FunctionTree) → Flat function_then f
function_flat (Declares n true) o c r = refl
function_flat (Declares n false) o c r = refl

watch_flat : (w : WatchTree) → Flat watch_then w
watch_flat (UseHazard f) o c r = refl
watch_flat (UseEpoch f g) o c r = refl

atom_flat : (a : AtomTree) → Flat atom_then a
atom_flat (NullAtom at) o c r = refl
atom_flat (NumberAtom n) o c r = refl
atom_flat (NameAtom n) o c r = refl

value_flat : (v : ValueTree) → Flat value_then v
value_flat (NullValue at) o c r = refl
value_flat (NewValue at) o c r = refl
value_flat (NumberValue n) o c r = refl
value_flat (MarkValue at n) o c r = refl
value_flat (UnmarkValue at n) o c r = refl
value_flat (PlaceValue p) o c r = place_flat p o c r

set_flat : (x : SetTree) → Flat set_then x
set_flat (SetName n v) o c r = value_flat v o c r
set_flat (SetField n f a) o c r = atom_flat a o c r

refresh_flat : (x : RefreshTree) → Flat refresh_then x
refresh_flat (RefreshName n p) o c r = place_flat p o c r
refresh_flat (RefreshField n f q) o c r = refl

ghost_value_flat : (v : GhostValueTree) → Flat ghost_value_then v
ghost_value_flat (NameGhost n) o c r = refl
ghost_value_flat (MeGhost at) o c r = refl
ghost_value_flat (NoneGhost at) o c r = refl

ghost_set_flat : (x : GhostSetTree) → Flat ghost_set_then x
ghost_set_flat (SetGhost n g v) o c r = ghost_value_flat v o c r

initial_flat : (i : InitialTree) → Flat initial_then i
initial_flat (InitialSet x) o c r = set_flat x o c (symbol Semicolon ∷ r)
initial_flat (InitialGhost x) o c r = ghost_set_flat x o c (symbol Semicolon ∷ r)

comparison_flat : (c : Comparison) → Flat (λ c r. symbol (comparison_symbol c) ∷ r) c
comparison_flat SameAs o c r = refl
comparison_flat OtherThan o c r = refl
comparison_flat LessThan o c r = refl
comparison_flat NotLessThan o c r = refl

test_flat : (t : TestTree) → Flat test_then t
test_flat (MarkedTest n) o c r = refl
test_flat (UnmarkedTest n) o c r = refl
test_flat (Compares n c a) o k r = comparison_flat c.value o k (atom_then a r) ∙ atom_flat a o k r

name_or_null_flat : (n : Option (Placed Text)) → Flat name_or_null_then n
name_or_null_flat None o c r = refl
name_or_null_flat (Some n) o c r = refl

condition_flat : (x : ConditionTree) → Flat condition_then x
condition_flat (TestCondition t) o c r = test_flat t o c r
condition_flat (RefreshCondition n p) o c r = place_flat p o c r
condition_flat (CasCondition true n p q) o c r = name_or_null_flat p o c _ ∙ name_or_null_flat q o c _
condition_flat (CasCondition false n p q) o c r = name_or_null_flat p o c _ ∙ name_or_null_flat q o c _

primitive_flat : (p : PrimitiveTree) → Flat primitive_then p
primitive_flat (SetPrimitive x) o c r = set_flat x o c r
primitive_flat (RefreshPrimitive x) o c r = refresh_flat x o c r
primitive_flat (GhostPrimitive x) o c r = ghost_set_flat x o c r
primitive_flat (ActivePrimitive n) o c r = refl
primitive_flat (AssumePrimitive t) o c r = test_flat t o c r
primitive_flat SkipPrimitive o c r = refl

primitive_line_flat : (p : PrimitiveTree) → Flat primitive_line_then p
primitive_line_flat p o c r = primitive_flat p o c (symbol Semicolon ∷ r)

argument_flat : (a : ArgumentTree) → Flat argument_then a
argument_flat NoArgument o c r = refl
argument_flat NullArgument o c r = refl
argument_flat (NameArgument n) o c r = refl
argument_flat (ActiveArgument n) o c r = refl

parameters_flat : (ps : List (Placed Text)) → Flat parameters_then ps
parameters_flat [] o c r = refl
parameters_flat (n ∷ ns) o c r = names_flat n ns o c r

term_flat : (t : TermTree) → Flat term_then t
term_flat (PlaceTerm x) o c r = place_flat x o c r
term_flat (NullTerm at) o c r = refl
term_flat (NumberTerm n) o c r = refl
term_flat (MeTerm at) o c r = refl
term_flat (NoneTerm at) o c r = refl

flag_flat : (f : FlagTree) → Flat flag_then f
flag_flat (RetiredFlag n) o c r = refl
flag_flat (MarkedFlag p) o c r = place_flat p o c (symbol CloseParen ∷ r)

literal_flat : (l : LiteralTree) → Flat literal_then l
literal_flat (FlagLiteral f) o c r = flag_flat f o c r
literal_flat (NotLiteral f) o c r = flag_flat f o c r
literal_flat (EqualityLiteral a true b) o c r = term_flat a o c _ ∙ term_flat b o c r
literal_flat (EqualityLiteral a false b) o c r = term_flat a o c _ ∙ term_flat b o c r

or_literal_flat : (l : Placed LiteralTree) → Flat or_literal_then l
or_literal_flat l o c r = placed_flat literal_then literal_flat l o c r

bound_flat : (b : BoundTree) → Flat bound_then b
bound_flat NoBound o c r = refl
bound_flat (AllOf n None) o c r = refl
bound_flat (AllOf n (Some m)) o c r = refl

clause_flat : (x : ClauseTree) → Flat clause_then x
clause_flat (Claims b l ls) o c r = bound_flat b o c _ ∙ (literal_flat l o c _ ∙ each_flat or_literal_then or_literal_flat ls o c r)

item_flat : (x : ItemTree) → Flat item_then x
item_flat (InvariantItem x) o c r = clause_flat x o c (symbol Semicolon ∷ r)
item_flat (OverItem n x) o c r = clause_flat x o c (symbol Semicolon ∷ r)
item_flat (AtItem n ns x) o c r = names_flat n ns o c _ ∙ clause_flat x o c (symbol Semicolon ∷ r)

-- ---- statements, within n open braces

-- what blocks of this depth reach
abbrev reach : ℕ → ℕ → ℕ
reach n zero = 0
reach n (suc d) = n + d

-- the blocks of a tree are so deep
abbrev Deep : {X : Type 0} → (X → Pieces → Pieces) → X → ℕ → Type 0
Deep x_then x d = (n c : ℕ) (r : Pieces) → deepest (n + c) c false (kinds_of (x_then x r)) ≡ max (reach n d) (deepest (n + c) c false (kinds_of r))

-- blocks that stand deeper reach more
reach_grows : (n d e : ℕ) → d ≤ e → reach n d ≤ reach n e
reach_grows n zero e h = omega arith
reach_grows n (suc d) zero h = absurd (omega arith)
reach_grows n (suc d) (suc e) h = omega arith

-- what two trees reach, one after the other, before what comes after them
before : (n d e y : ℕ) → max (reach n d) (max (reach n e) y) ≡ max (reach n (max d e)) y
before n d e y = by (nat_le d e) refl
  where
    by : (b : Bool) → nat_le d e ≡ b → max (reach n d) (max (reach n e) y) ≡ max (reach n (max d e)) y
    by true le =
        let less = leb-true d e le in
        let deeper : max d e ≡ e = omega (arith, less) in
        let more = reach_grows n d e less in
        subst (λ m. max (reach n d) (max (reach n e) y) ≡ max (reach n m) y) (sym deeper) (omega (arith, more))
    by false le =
        let less = leb-false d e le in
        let deeper : max d e ≡ d = omega (arith, less) in
        let more = reach_grows n e d (omega (arith, less)) in
        subst (λ m. max (reach n d) (max (reach n e) y) ≡ max (reach n m) y) (sym deeper) (omega (arith, more))

-- what blocks of no depth reach
flat_deep : (n y : ℕ) → y ≡ max (reach n 0) y
flat_deep n y = omega arith

within : (n d y : ℕ) → max n (max (reach (suc n) d) y) ≡ max (reach n (suc d)) y
within n zero y = omega arith
within n (suc d) y = omega arith

-- a block in its braces
in_block : {X : Type 0} (x_then : X → Pieces → Pieces) (x : X) (d : ℕ) → Deep x_then x d → (n c : ℕ) (r : Pieces)
    → deepest (n + c) c false (kinds_of (symbol OpenBrace ∷ x_then x (symbol CloseBrace ∷ r))) ≡ max (reach n (suc d)) (deepest (n + c) c false (kinds_of r))
in_block x_then x d deep n c r =
    let open_here : (n + c) - c ≡ n = omega arith in
    let more : suc (n + c) ≡ suc n + c = omega arith in
    ap (λ k. max k (deepest (suc (n + c)) c false (kinds_of (x_then x (symbol CloseBrace ∷ r))))) open_here
    ∙ ap (max n) (ap (λ k. deepest k c false (kinds_of (x_then x (symbol CloseBrace ∷ r)))) more ∙ deep (suc n) c (symbol CloseBrace ∷ r)
    ∙ ap (max (reach (suc n) d)) (ap (λ k. deepest k (suc c) false (kinds_of r)) (sym more) ∙ shift (n + c) c false (kinds_of r)))
    ∙ within n d (deepest (n + c) c false (kinds_of r))

-- an atomic block is none
atomic_flat : (ps : List (Placed PrimitiveTree)) → Flat statement_then (AtomicStatement ps)
atomic_flat ps o c r = let inner = each_flat (placed_then primitive_line_then) (placed_flat primitive_line_then primitive_line_flat) ps (suc o) c (symbol CloseBrace ∷ r) ∙ shift o c false (kinds_of r) in ap (max 0) inner ∙ sym (flat_deep 0 _)

mutual
  statement_deep : (x : StatementTree) → Deep statement_then x (statement_depth x)
  statement_deep (PrimitiveStatement p) n c r = primitive_flat p (n + c) c (symbol Semicolon ∷ r) ∙ flat_deep n _
  statement_deep (AtomicStatement ps) n c r = atomic_flat ps (n + c) c r ∙ flat_deep n _
  statement_deep (CallStatement f a d) n c r = argument_flat a (n + c) c _ ∙ (maybe_flat during_then (λ m o c r. refl) d (n + c) c _ ∙ flat_deep n _)
  statement_deep (IfStatement x b e) n c r =
      condition_flat x (n + c) c _ ∙ (in_block statements_then b (block_depth b) (block_deep b) n c (else_then e r)
      ∙ (ap (max (reach n (suc (block_depth b)))) (else_deep e n c r) ∙ before n (suc (block_depth b)) (else_depth e) _))
  statement_deep (ChooseStatement a b os) n c r =
      in_block statements_then a (block_depth a) (block_deep a) n c _
      ∙ (ap (max (reach n (suc (block_depth a)))) (in_block statements_then b (block_depth b) (block_deep b) n c (or_then os r)
      ∙ (ap (max (reach n (suc (block_depth b)))) (or_deep os n c r) ∙ before n (suc (block_depth b)) (or_depth os) _))
      ∙ before n (suc (block_depth a)) (max (suc (block_depth b)) (or_depth os)) _)
  statement_deep (LoopStatement b) n c r = in_block statements_then b (block_depth b) (block_deep b) n c r
  statement_deep BreakStatement n c r = flat_deep n _
  statement_deep ReturnStatement n c r = flat_deep n _
  statement_deep (LabelStatement m) n c r = flat_deep n _

  block_deep : (b : BlockTree) → Deep statements_then b (block_depth b)
  block_deep NoStatement n c r = flat_deep n _
  block_deep (Then at s b) n c r = ap (deepest (n + c) c false) (from_kinds at (statement_then s (statements_then b r))) ∙ statement_deep s n c _ ∙ (ap (max (reach n (statement_depth s))) (block_deep b n c r) ∙ before n (statement_depth s) (block_depth b) _)

  else_deep : (e : ElseTree) → Deep else_then e (else_depth e)
  else_deep NoElse n c r = flat_deep n _
  else_deep (ElseBlock b) n c r = in_block statements_then b (block_depth b) (block_deep b) n c r

  or_deep : (os : OrTree) → Deep or_then os (or_depth os)
  or_deep NoOr n c r = flat_deep n _
  or_deep (OrBlock b os) n c r =
      in_block statements_then b (block_depth b) (block_deep b) n c (or_then os r)
      ∙ (ap (max (reach n (suc (block_depth b)))) (or_deep os n c r) ∙ before n (suc (block_depth b)) (or_depth os) _)

-- ---- the file: outside of operations no brace is open

-- braces of no block, where none is open
in_front : {X : Type 0} (x_then : X → Pieces → Pieces) (x : X) → Flat x_then x → (r : Pieces)
    → deepest 0 0 false (kinds_of (symbol OpenBrace ∷ x_then x (symbol CloseBrace ∷ r))) ≡ deepest 0 0 false (kinds_of r)
in_front x_then x flat r = ap (max 0) (flat 1 0 (symbol CloseBrace ∷ r) ∙ shift 0 0 false (kinds_of r)) ∙ sym (flat_deep 0 _)

each_front : {X : Type 0} (x_then : X → Pieces → Pieces) → ((x : X) (r : Pieces) → deepest 0 0 false (kinds_of (x_then x r)) ≡ deepest 0 0 false (kinds_of r)) → (xs : List X) (r : Pieces)
    → deepest 0 0 false (kinds_of (each_then x_then xs r)) ≡ deepest 0 0 false (kinds_of r)
each_front x_then one [] r = refl
each_front x_then one (x ∷ xs) r = one x _ ∙ each_front x_then one xs r

ghost_front : (g : GhostTree) (r : Pieces) → deepest 0 0 false (kinds_of (ghost_then g r)) ≡ deepest 0 0 false (kinds_of r)
ghost_front (Auxiliary n OfThreads) r = refl
ghost_front (Auxiliary n (OneOf v vs)) r = in_front (names_then v) vs (names_flat v vs) (symbol Semicolon ∷ r)

starts_front : (x : Option (List (Placed InitialTree))) (r : Pieces) → deepest 0 0 false (kinds_of (maybe_then init_then x r)) ≡ deepest 0 0 false (kinds_of r)
starts_front None r = refl
starts_front (Some is) r = in_front (each_then (placed_then initial_then)) is (each_flat (placed_then initial_then) (placed_flat initial_then initial_flat) is) r

outline_front : (x : Option OutlineTree) → deepest 0 0 false (kinds_of (maybe_then outline_then x [])) ≡ 0
outline_front None = refl
outline_front (Some (Outlined d items)) = in_front items_after items flat []
  where
    items_after : List ItemTree → Pieces → Pieces
    items_after xs r = maybe_then depth_then d (each_then item_then xs r)

    flat : Flat items_after items
    flat o c r = maybe_flat depth_then (λ k o c r. refl) d o c _ ∙ each_flat item_then item_flat items o c r

op_front : (x : OpTree) (r : Pieces) → deepest 0 0 false (kinds_of (op_then x r)) ≡ max (reach 1 (op_depth x)) (deepest 0 0 false (kinds_of r))
op_front (Operates n ps ls b) r =
    parameters_flat ps 0 0 _ ∙ (ap (max 0) (each_flat field_then field_flat ls 1 0 _ ∙ (block_deep b 1 0 (symbol CloseBrace ∷ r) ∙ ap (max (reach 1 (block_depth b))) (shift 0 0 false (kinds_of r)))) ∙ sym (flat_deep 0 _))

ops_front : (xs : List (Placed OpTree)) (r : Pieces) → deepest 0 0 false (kinds_of (each_then (placed_then op_then) xs r)) ≡ max (reach 1 (ops_depth xs)) (deepest 0 0 false (kinds_of r))
ops_front [] r = flat_deep 1 _
ops_front (x ∷ xs) r = ap (deepest 0 0 false) (from_kinds x.at (op_then x.value (each_then (placed_then op_then) xs r))) ∙ (op_front x.value _ ∙ (ap (max (reach 1 (op_depth x.value))) (ops_front xs r) ∙ before 1 (op_depth x.value) (ops_depth xs) _))

file_deep : (f : FileTree) → deepest 0 0 false (file_tokens f) ≡ reach 1 (file_depth f)
file_deep f =
    in_front (each_then field_then) f.fields (each_flat field_then field_flat f.fields) _
    ∙ (each_front shared_then (λ n r. refl) f.pointers _
    ∙ (each_front function_then (λ x r. function_flat x 0 0 r) f.functions _
    ∙ (maybe_flat watch_then watch_flat f.watched 0 0 _
    ∙ (each_front ghost_then ghost_front f.ghosts _
    ∙ (starts_front f.starts _
    ∙ (ops_front f.ops _ ∙ (ap (max (reach 1 (file_depth f))) (outline_front f.outlined) ∙ ends (reach 1 (file_depth f)))))))))
  where
    ends : (m : ℕ) → max m 0 ≡ m
    ends m = omega arith

-- one open brace is the operation's
reach_few : (d : ℕ) → reach 1 d ≤ nesting_limit → d ≤ nesting_limit
reach_few zero h = omega arith
reach_few (suc d) h = omega arith

few_reach : (d : ℕ) → d ≤ nesting_limit → reach 1 d ≤ nesting_limit
few_reach zero h = omega arith
few_reach (suc d) h = omega arith

pub depth_is_that_of_braces : DepthIsThatOfBraces
depth_is_that_of_braces f = (
  λ h. reach_few (file_depth f) (subst (λ m. m ≤ nesting_limit) (file_deep f) (fine_deepest 0 0 false (file_tokens f) (shallow_tokens (file_tokens f) h))),
  λ h. tokens_shallow (file_tokens f) (deepest_fine 0 0 false (file_tokens f) (subst (λ m. m ≤ nesting_limit) (sym (file_deep f)) (few_reach (file_depth f) h))),
)
