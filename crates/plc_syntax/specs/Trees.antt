-- The grammar of a file: a tree for each form, and the tokens that spell it. `x_then tree rest` is the tokens of the
-- tree followed by the rest, so that no tokens are ever joined by `++`. The forms stand in the grammar's order, but
-- each above those that are made of it. Above each form is its production: quoted words are tokens, `[ ]` is optional,
-- `{ }*` repeats. Names, numbers, statements and what else a fault can be told at carry their place: the number of
-- their first token, counted from 0. So each token of a tree comes with the places that the tree gives it, and one
-- relation, `AreInPlace`, pins all of them.
use Rattle.std.specs.Prelude.{◌≡◌, ℕ, ◌+◌, Bool, true, false, Option, Some, None, List, [], ◌∷◌, map}
use Rattle.std.specs.List.{AllByRecursion}
use Rattle.plc_lex.specs.declared.token.TokenKind.{TokenKind}
use Rattle.plc_lex.specs.declared.token.TokenKind.TheVariants.{Word, Name, Number, Symbol}
use Rattle.plc_lex.specs.declared.token.Keyword.{Keyword}
use Rattle.plc_lex.specs.declared.token.Keyword.TheVariants.{Struct, Ptr, Data, Shared, Call, Use, Hazard, Epoch, Ghost}
use Rattle.plc_lex.specs.declared.token.Keyword.TheVariants.{Thread, Init, Op, Atomic, If, Else, Loop, Break, Return}
use Rattle.plc_lex.specs.declared.token.Keyword.TheVariants.{Skip, Choose, Or, Label, During, Active, Assume, New, Null}
use Rattle.plc_lex.specs.declared.token.Keyword.TheVariants.{Cas, Outline, Depth, Inv, Over, At, All, Not, Retired, Me}
use Rattle.plc_lex.specs.declared.token.Keyword.TheVariants.{None as NoneWord, Mark, Unmark, Marked, Unmarked}
use Rattle.plc_lex.specs.declared.token.Symbol.{Symbol as Punctuation}
use Rattle.plc_lex.specs.declared.token.Symbol.TheVariants.{Assign, Refresh, Equal, Unequal, AtLeast, OpenBrace}
use Rattle.plc_lex.specs.declared.token.Symbol.TheVariants.{CloseBrace, OpenParen, CloseParen, Semicolon, Comma, Dot}
use Rattle.plc_lex.specs.declared.token.Symbol.TheVariants.{Colon, Less}

-- the bytes of a name
abbrev pub Text : Type 0
Text = List ℕ

-- what stands at a place, the number of its first token
pub record Placed (X : Type 0) : Type 0 where
  pub at : ℕ
  pub value : X

-- ---- the tokens of a tree, and their places

-- a token that a tree spells, with the places that the tree gives it
pub record Piece : Type 0 where
  pub kind : TokenKind
  pub places : List ℕ

abbrev pub Pieces : Type 0
Pieces = List Piece

-- a token to which a tree gives no place
abbrev pub plain : TokenKind → Piece
plain k = record { kind = k; places = [] }

abbrev pub word : Keyword → Piece
word w = plain (Word w)

abbrev pub symbol : Punctuation → Piece
symbol s = plain (Symbol s)

-- a token at a place
abbrev pub token_at : ℕ → TokenKind → Piece
token_at at k = record { kind = k; places = at ∷ [] }

abbrev pub word_at : ℕ → Keyword → Piece
word_at at w = token_at at (Word w)

abbrev pub name : Placed Text → Piece
name n = token_at n.at (Name n.value)

abbrev pub numeral : Placed ℕ → Piece
numeral n = token_at n.at (Number n.value)

-- tokens of which the first is at this place too
abbrev pub from_place : ℕ → Pieces → Pieces
from_place at [] = []
from_place at (p ∷ ps) = record { kind = p.kind; places = at ∷ p.places } ∷ ps

-- the tokens of a form at its place
abbrev pub placed_then : {A : Type 0} → (A → Pieces → Pieces) → Placed A → Pieces → Pieces
placed_then x_then x rest = from_place x.at (x_then x.value rest)

-- the tokens without the places
abbrev pub kinds_of : Pieces → List TokenKind
kinds_of ps = map (λ p. p.kind) ps

-- each place that a tree gives is the number of its own token, where the first has this one
abbrev pub AreInPlace : ℕ → Pieces → Type 0
AreInPlace at [] = Unit {0}
AreInPlace at (p ∷ ps) = AllByRecursion (λ place. place ≡ at) p.places × AreInPlace (at + 1) ps

-- ---- the forms

-- { x }*
abbrev pub each_then : {A : Type 0} → (A → Pieces → Pieces) → List A → Pieces → Pieces
each_then x_then [] rest = rest
each_then x_then (x ∷ xs) rest = x_then x (each_then x_then xs rest)

-- [ x ]
abbrev pub maybe_then : {A : Type 0} → (A → Pieces → Pieces) → Option A → Pieces
    → Pieces
maybe_then x_then None rest = rest
maybe_then x_then (Some x) rest = x_then x rest

-- [ "word" ]
abbrev pub word_if_then : Keyword → Bool → Pieces → Pieces
word_if_then w false rest = rest
word_if_then w true rest = word w ∷ rest

-- "," NAME
abbrev pub comma_name_then : Placed Text → Pieces → Pieces
comma_name_then n rest = symbol Comma ∷ name n ∷ rest

-- NAME { "," NAME }*
abbrev pub names_then : Placed Text → List (Placed Text) → Pieces → Pieces
names_then n ns rest = name n ∷ each_then comma_name_then ns rest

-- ( "ptr" | "data" ) NAME ";", a field of the struct or a local of an operation
pub data FieldTree : Type 0 where
  PointerField : Placed Text → FieldTree
  DataField : Placed Text → FieldTree

abbrev pub field_then : FieldTree → Pieces → Pieces
field_then (PointerField n) rest = word Ptr ∷ name n ∷ symbol Semicolon ∷ rest
field_then (DataField n) rest = word Data ∷ name n ∷ symbol Semicolon ∷ rest

-- struct := "struct" NAME "{" { ( "ptr" | "data" ) NAME ";" }* "}"
abbrev pub struct_then : Placed Text → List FieldTree → Pieces → Pieces
struct_then n fs rest = word Struct ∷ name n ∷ symbol OpenBrace ∷ each_then field_then fs (symbol CloseBrace ∷ rest)

-- shared := "shared" NAME ";"
abbrev pub shared_then : Placed Text → Pieces → Pieces
shared_then n rest = word Shared ∷ name n ∷ symbol Semicolon ∷ rest

-- call := "call" NAME "(" [ "ptr" ] ")" ";"
pub data FunctionTree : Type 0 where
  Declares : Placed Text → Bool → FunctionTree

abbrev pub function_then : FunctionTree → Pieces → Pieces
function_then (Declares n takes_pointer) rest =
    word Call ∷ name n ∷ symbol OpenParen ∷ word_if_then Ptr takes_pointer (symbol CloseParen ∷ symbol Semicolon ∷ rest)

-- watch := "use" "hazard" "(" NAME ")" ";" | "use" "epoch" "(" NAME "," NAME ")" ";"
pub data WatchTree : Type 0 where
  UseHazard : Placed Text → WatchTree
  UseEpoch : Placed Text → Placed Text → WatchTree

abbrev pub scheme_then : WatchTree → Pieces → Pieces
scheme_then (UseHazard f) rest = word Hazard ∷ symbol OpenParen ∷ name f ∷ symbol CloseParen ∷ symbol Semicolon ∷ rest
scheme_then (UseEpoch e l) rest =
    word Epoch ∷ symbol OpenParen ∷ name e ∷ symbol Comma ∷ name l ∷ symbol CloseParen ∷ symbol Semicolon ∷ rest

abbrev pub watch_then : WatchTree → Pieces → Pieces
watch_then w rest = word Use ∷ scheme_then w rest

-- ghost := "ghost" NAME ( "{" NAME { "," NAME }* "}" | "thread" ) ";"
pub data GhostKindTree : Type 0 where
  OneOf : Placed Text → List (Placed Text) → GhostKindTree
  OfThreads : GhostKindTree

abbrev pub ghost_kind_then : GhostKindTree → Pieces → Pieces
ghost_kind_then (OneOf v vs) rest = symbol OpenBrace ∷ names_then v vs (symbol CloseBrace ∷ rest)
ghost_kind_then OfThreads rest = word Thread ∷ rest

pub data GhostTree : Type 0 where
  Auxiliary : Placed Text → GhostKindTree → GhostTree

abbrev pub ghost_then : GhostTree → Pieces → Pieces
ghost_then (Auxiliary n k) rest = word Ghost ∷ name n ∷ ghost_kind_then k (symbol Semicolon ∷ rest)

-- NAME [ "." NAME ], a name or a field of what it points to
abbrev pub dot_name_then : Placed Text → Pieces → Pieces
dot_name_then f rest = symbol Dot ∷ name f ∷ rest

pub data PlaceTree : Type 0 where
  PlaceOf : Placed Text → Option (Placed Text) → PlaceTree

abbrev pub place_then : PlaceTree → Pieces → Pieces
place_then (PlaceOf n f) rest = name n ∷ maybe_then dot_name_then f rest

-- "null" | NUMBER | NAME, what is put into a field and what a name is compared with
pub data AtomTree : Type 0 where
  NullAtom : ℕ → AtomTree
  NumberAtom : Placed ℕ → AtomTree
  NameAtom : Placed Text → AtomTree

abbrev pub atom_then : AtomTree → Pieces → Pieces
atom_then (NullAtom at) rest = word_at at Null ∷ rest
atom_then (NumberAtom n) rest = numeral n ∷ rest
atom_then (NameAtom n) rest = name n ∷ rest

-- "null" | "new" | NUMBER | ( "mark" | "unmark" ) NAME | NAME [ "." NAME ], what is put into a name
pub data ValueTree : Type 0 where
  NullValue : ℕ → ValueTree
  NewValue : ℕ → ValueTree
  NumberValue : Placed ℕ → ValueTree
  MarkValue : ℕ → Placed Text → ValueTree
  UnmarkValue : ℕ → Placed Text → ValueTree
  PlaceValue : PlaceTree → ValueTree

abbrev pub value_then : ValueTree → Pieces → Pieces
value_then (NullValue at) rest = word_at at Null ∷ rest
value_then (NewValue at) rest = word_at at New ∷ rest
value_then (NumberValue n) rest = numeral n ∷ rest
value_then (MarkValue at n) rest = word_at at Mark ∷ name n ∷ rest
value_then (UnmarkValue at n) rest = word_at at Unmark ∷ name n ∷ rest
value_then (PlaceValue p) rest = place_then p rest

-- set := NAME ":=" ( "null" | "new" | NUMBER | ( "mark" | "unmark" ) NAME | NAME [ "." NAME ] )
--    | NAME "." NAME ":=" ( "null" | NUMBER | NAME )
pub data SetTree : Type 0 where
  SetName : Placed Text → ValueTree → SetTree
  SetField : Placed Text → Placed Text → AtomTree → SetTree

abbrev pub set_then : SetTree → Pieces → Pieces
set_then (SetName n v) rest = name n ∷ symbol Assign ∷ value_then v rest
set_then (SetField n f a) rest = name n ∷ symbol Dot ∷ name f ∷ symbol Assign ∷ atom_then a rest

-- refresh := NAME "?=" NAME [ "." NAME ] | NAME "." NAME "?=" NAME
pub data RefreshTree : Type 0 where
  RefreshName : Placed Text → PlaceTree → RefreshTree
  RefreshField : Placed Text → Placed Text → Placed Text → RefreshTree

abbrev pub refresh_then : RefreshTree → Pieces → Pieces
refresh_then (RefreshName n p) rest = name n ∷ symbol Refresh ∷ place_then p rest
refresh_then (RefreshField n f q) rest = name n ∷ symbol Dot ∷ name f ∷ symbol Refresh ∷ name q ∷ rest

-- gset := "ghost" NAME "." NAME ":=" ( NAME | "me" | "none" )
pub data GhostValueTree : Type 0 where
  NameGhost : Placed Text → GhostValueTree
  MeGhost : ℕ → GhostValueTree
  NoneGhost : ℕ → GhostValueTree

abbrev pub ghost_value_then : GhostValueTree → Pieces → Pieces
ghost_value_then (NameGhost n) rest = name n ∷ rest
ghost_value_then (MeGhost at) rest = word_at at Me ∷ rest
ghost_value_then (NoneGhost at) rest = word_at at NoneWord ∷ rest

pub data GhostSetTree : Type 0 where
  SetGhost : Placed Text → Placed Text → GhostValueTree → GhostSetTree

abbrev pub ghost_set_then : GhostSetTree → Pieces → Pieces
ghost_set_then (SetGhost n g v) rest =
    word Ghost ∷ name n ∷ symbol Dot ∷ name g ∷ symbol Assign ∷ ghost_value_then v rest

-- init := "init" "{" { ( set | gset ) ";" }* "}"
pub data InitialTree : Type 0 where
  InitialSet : SetTree → InitialTree
  InitialGhost : GhostSetTree → InitialTree

abbrev pub initial_then : InitialTree → Pieces → Pieces
initial_then (InitialSet s) rest = set_then s (symbol Semicolon ∷ rest)
initial_then (InitialGhost g) rest = ghost_set_then g (symbol Semicolon ∷ rest)

abbrev pub init_then : List (Placed InitialTree) → Pieces → Pieces
init_then sets rest = word Init ∷ symbol OpenBrace ∷ each_then (placed_then initial_then) sets
    (symbol CloseBrace ∷ rest)

-- test := ( "marked" | "unmarked" ) NAME | NAME ( "==" | "!=" | "<" | ">=" ) ( NAME | NUMBER | "null" )
pub data Comparison : Type 0 where
  SameAs : Comparison
  OtherThan : Comparison
  LessThan : Comparison
  NotLessThan : Comparison

abbrev pub comparison_symbol : Comparison → Punctuation
comparison_symbol SameAs = Equal
comparison_symbol OtherThan = Unequal
comparison_symbol LessThan = Less
comparison_symbol NotLessThan = AtLeast

abbrev pub comparison : Placed Comparison → Piece
comparison c = token_at c.at (Symbol (comparison_symbol c.value))

pub data TestTree : Type 0 where
  MarkedTest : Placed Text → TestTree
  UnmarkedTest : Placed Text → TestTree
  Compares : Placed Text → Placed Comparison → AtomTree → TestTree

abbrev pub test_then : TestTree → Pieces → Pieces
test_then (MarkedTest n) rest = word Marked ∷ name n ∷ rest
test_then (UnmarkedTest n) rest = word Unmarked ∷ name n ∷ rest
test_then (Compares n c a) rest = name n ∷ comparison c ∷ atom_then a rest

-- cond := test | NAME "?=" NAME [ "." NAME ] | "cas" "(" [ "active" ] NAME "," ( NAME | "null" ) "," ( NAME
--    | "null" ) ")"
abbrev pub name_or_null_then : Option (Placed Text) → Pieces → Pieces
name_or_null_then (Some n) rest = name n ∷ rest
name_or_null_then None rest = word Null ∷ rest

pub data ConditionTree : Type 0 where
  TestCondition : TestTree → ConditionTree
  RefreshCondition : Placed Text → PlaceTree → ConditionTree
  CasCondition : Bool → Placed Text → Option (Placed Text) → Option (Placed Text) → ConditionTree

abbrev pub condition_then : ConditionTree → Pieces → Pieces
condition_then (TestCondition t) rest = test_then t rest
condition_then (RefreshCondition n p) rest = name n ∷ symbol Refresh ∷ place_then p rest
condition_then (CasCondition is_active n old new) rest =
    word Cas ∷ symbol OpenParen ∷ word_if_then Active is_active (name n ∷ symbol Comma ∷ name_or_null_then old
    (symbol Comma ∷ name_or_null_then new (symbol CloseParen ∷ rest)))

-- prim := set | refresh | gset | "active" NAME | "assume" test | "skip"
pub data PrimitiveTree : Type 0 where
  SetPrimitive : SetTree → PrimitiveTree
  RefreshPrimitive : RefreshTree → PrimitiveTree
  GhostPrimitive : GhostSetTree → PrimitiveTree
  ActivePrimitive : Placed Text → PrimitiveTree
  AssumePrimitive : TestTree → PrimitiveTree
  SkipPrimitive : PrimitiveTree

abbrev pub primitive_then : PrimitiveTree → Pieces → Pieces
primitive_then (SetPrimitive s) rest = set_then s rest
primitive_then (RefreshPrimitive r) rest = refresh_then r rest
primitive_then (GhostPrimitive g) rest = ghost_set_then g rest
primitive_then (ActivePrimitive n) rest = word Active ∷ name n ∷ rest
primitive_then (AssumePrimitive t) rest = word Assume ∷ test_then t rest
primitive_then SkipPrimitive rest = word Skip ∷ rest

-- prim ";"
abbrev pub primitive_line_then : PrimitiveTree → Pieces → Pieces
primitive_line_then p rest = primitive_then p (symbol Semicolon ∷ rest)

-- [ "null" | [ "active" ] NAME ], what a function is called with
pub data ArgumentTree : Type 0 where
  NoArgument : ArgumentTree
  NullArgument : ArgumentTree
  NameArgument : Placed Text → ArgumentTree
  ActiveArgument : Placed Text → ArgumentTree

abbrev pub argument_then : ArgumentTree → Pieces → Pieces
argument_then NoArgument rest = rest
argument_then NullArgument rest = word Null ∷ rest
argument_then (NameArgument n) rest = name n ∷ rest
argument_then (ActiveArgument n) rest = word Active ∷ name n ∷ rest

-- "during" NAME
abbrev pub during_then : Placed Text → Pieces → Pieces
during_then n rest = word During ∷ name n ∷ rest

-- stmt := prim ";" | "atomic" "{" { prim ";" }* "}"
--       | NAME "(" [ "null" | [ "active" ] NAME ] ")" [ "during" NAME ] ";"
--       | "if" "(" cond ")" block [ "else" block ] | "choose" block "or" block { "or" block }*
--       | "loop" block | "break" ";" | "return" ";" | "label" NAME ";"
mutual
  pub data StatementTree : Type 0 where
    PrimitiveStatement : PrimitiveTree → StatementTree
    AtomicStatement : List (Placed PrimitiveTree) → StatementTree
    CallStatement : Placed Text → ArgumentTree → Option (Placed Text) → StatementTree
    IfStatement : ConditionTree → BlockTree → ElseTree → StatementTree
    ChooseStatement : BlockTree → BlockTree → OrTree → StatementTree
    LoopStatement : BlockTree → StatementTree
    BreakStatement : StatementTree
    ReturnStatement : StatementTree
    LabelStatement : Placed Text → StatementTree

  -- { stmt }*, the statements of a block, each at its place
  pub data BlockTree : Type 0 where
    NoStatement : BlockTree
    Then : ℕ → StatementTree → BlockTree → BlockTree

  -- [ "else" block ]
  pub data ElseTree : Type 0 where
    NoElse : ElseTree
    ElseBlock : BlockTree → ElseTree

  -- { "or" block }*, the blocks of a choice after its second
  pub data OrTree : Type 0 where
    NoOr : OrTree
    OrBlock : BlockTree → OrTree → OrTree

-- block := "{" { stmt }* "}"
abbrev mutual
  pub statement_then : StatementTree → Pieces → Pieces
  statement_then (PrimitiveStatement p) rest = primitive_then p (symbol Semicolon ∷ rest)
  statement_then (AtomicStatement ps) rest =
      word Atomic ∷ symbol OpenBrace ∷ each_then (placed_then primitive_line_then) ps (symbol CloseBrace ∷ rest)
  statement_then (CallStatement f a d) rest = name f ∷ symbol OpenParen ∷ argument_then a
      (symbol CloseParen ∷ maybe_then during_then d (symbol Semicolon ∷ rest))
  statement_then (IfStatement c b e) rest = word If ∷ symbol OpenParen ∷ condition_then c
      (symbol CloseParen ∷ symbol OpenBrace ∷ statements_then b (symbol CloseBrace ∷ else_then e rest))
  statement_then (ChooseStatement a b os) rest =
      word Choose ∷ symbol OpenBrace ∷ statements_then a (symbol CloseBrace ∷ word Or ∷ symbol OpenBrace ∷
      statements_then b (symbol CloseBrace ∷ or_then os rest))
  statement_then (LoopStatement b) rest = word Loop ∷ symbol OpenBrace ∷ statements_then b (symbol CloseBrace ∷ rest)
  statement_then BreakStatement rest = word Break ∷ symbol Semicolon ∷ rest
  statement_then ReturnStatement rest = word Return ∷ symbol Semicolon ∷ rest
  statement_then (LabelStatement n) rest = word Label ∷ name n ∷ symbol Semicolon ∷ rest

  pub statements_then : BlockTree → Pieces → Pieces
  statements_then NoStatement rest = rest
  statements_then (Then at s b) rest = from_place at (statement_then s (statements_then b rest))

  pub else_then : ElseTree → Pieces → Pieces
  else_then NoElse rest = rest
  else_then (ElseBlock b) rest = word Else ∷ symbol OpenBrace ∷ statements_then b (symbol CloseBrace ∷ rest)

  pub or_then : OrTree → Pieces → Pieces
  or_then NoOr rest = rest
  or_then (OrBlock b os) rest = word Or ∷ symbol OpenBrace ∷ statements_then b (symbol CloseBrace ∷ or_then os rest)

-- [ NAME { "," NAME }* ]
abbrev pub parameters_then : List (Placed Text) → Pieces → Pieces
parameters_then [] rest = rest
parameters_then (n ∷ ns) rest = names_then n ns rest

-- op := "op" NAME "(" [ NAME { "," NAME }* ] ")" "{" { ( "ptr" | "data" ) NAME ";" }* { stmt }* "}"
pub data OpTree : Type 0 where
  Operates : Placed Text → List (Placed Text) → List FieldTree → BlockTree → OpTree

abbrev pub op_then : OpTree → Pieces → Pieces
op_then (Operates n ps locals b) rest =
    word Op ∷ name n ∷ symbol OpenParen ∷ parameters_then ps (symbol CloseParen ∷ symbol OpenBrace ∷
    each_then field_then locals (statements_then b (symbol CloseBrace ∷ rest)))

-- term := NAME [ "." NAME ] | "null" | NUMBER | "me" | "none"
pub data TermTree : Type 0 where
  PlaceTerm : PlaceTree → TermTree
  NullTerm : ℕ → TermTree
  NumberTerm : Placed ℕ → TermTree
  MeTerm : ℕ → TermTree
  NoneTerm : ℕ → TermTree

abbrev pub term_then : TermTree → Pieces → Pieces
term_then (PlaceTerm p) rest = place_then p rest
term_then (NullTerm at) rest = word_at at Null ∷ rest
term_then (NumberTerm n) rest = numeral n ∷ rest
term_then (MeTerm at) rest = word_at at Me ∷ rest
term_then (NoneTerm at) rest = word_at at NoneWord ∷ rest

-- lit := [ "not" ] ( "retired" "(" NAME ")" | "marked" "(" NAME [ "." NAME ] ")" ) | term ( "==" | "!=" ) term
pub data FlagTree : Type 0 where
  RetiredFlag : Placed Text → FlagTree
  MarkedFlag : PlaceTree → FlagTree

abbrev pub flag_then : FlagTree → Pieces → Pieces
flag_then (RetiredFlag n) rest = word Retired ∷ symbol OpenParen ∷ name n ∷ symbol CloseParen ∷ rest
flag_then (MarkedFlag p) rest = word Marked ∷ symbol OpenParen ∷ place_then p (symbol CloseParen ∷ rest)

abbrev pub equality_symbol : Bool → Punctuation
equality_symbol true = Equal
equality_symbol false = Unequal

pub data LiteralTree : Type 0 where
  FlagLiteral : FlagTree → LiteralTree
  NotLiteral : FlagTree → LiteralTree
  EqualityLiteral : TermTree → Bool → TermTree → LiteralTree

abbrev pub literal_then : LiteralTree → Pieces → Pieces
literal_then (FlagLiteral f) rest = flag_then f rest
literal_then (NotLiteral f) rest = word Not ∷ flag_then f rest
literal_then (EqualityLiteral a is_equal b) rest = term_then a (symbol (equality_symbol is_equal) ∷ term_then b rest)

-- clause := [ "all" NAME [ "," NAME ] ":" ] lit { "or" lit }*
pub data BoundTree : Type 0 where
  NoBound : BoundTree
  AllOf : Placed Text → Option (Placed Text) → BoundTree

abbrev pub bound_then : BoundTree → Pieces → Pieces
bound_then NoBound rest = rest
bound_then (AllOf n m) rest = word All ∷ name n ∷ maybe_then comma_name_then m (symbol Colon ∷ rest)

abbrev pub or_literal_then : Placed LiteralTree → Pieces → Pieces
or_literal_then l rest = word Or ∷ placed_then literal_then l rest

pub data ClauseTree : Type 0 where
  Claims : BoundTree → LiteralTree → List (Placed LiteralTree) → ClauseTree

abbrev pub clause_then : ClauseTree → Pieces → Pieces
clause_then (Claims b l ls) rest = bound_then b (literal_then l (each_then or_literal_then ls rest))

-- item := "inv" clause ";" | "over" NAME ":" clause ";" | "at" NAME { "," NAME }* ":" clause ";"
pub data ItemTree : Type 0 where
  InvariantItem : ClauseTree → ItemTree
  OverItem : Placed Text → ClauseTree → ItemTree
  AtItem : Placed Text → List (Placed Text) → ClauseTree → ItemTree

abbrev pub item_then : ItemTree → Pieces → Pieces
item_then (InvariantItem c) rest = word Inv ∷ clause_then c (symbol Semicolon ∷ rest)
item_then (OverItem n c) rest = word Over ∷ name n ∷ symbol Colon ∷ clause_then c (symbol Semicolon ∷ rest)
item_then (AtItem n ns c) rest = word At ∷ names_then n ns (symbol Colon ∷ clause_then c (symbol Semicolon ∷ rest))

-- outline := "outline" "{" [ "depth" NUMBER ";" ] { item }* "}"
abbrev pub depth_then : Placed ℕ → Pieces → Pieces
depth_then d rest = word Depth ∷ numeral d ∷ symbol Semicolon ∷ rest

pub data OutlineTree : Type 0 where
  Outlined : Option (Placed ℕ) → List ItemTree → OutlineTree

abbrev pub outline_then : OutlineTree → Pieces → Pieces
outline_then (Outlined d items) rest =
    word Outline ∷ symbol OpenBrace ∷ maybe_then depth_then d (each_then item_then items (symbol CloseBrace ∷ rest))

-- file := struct { shared }* { call }* [ watch ] { ghost }* [ init ] { op }* [ outline ]
pub record FileTree : Type 0 where
  pub name : Placed Text
  pub fields : List FieldTree
  pub pointers : List (Placed Text)
  pub functions : List FunctionTree
  pub watched : Option WatchTree
  pub ghosts : List GhostTree
  pub starts : Option (List (Placed InitialTree))
  pub ops : List (Placed OpTree)
  pub outlined : Option OutlineTree

abbrev pub file_then : FileTree → Pieces → Pieces
file_then f rest =
    struct_then f.name f.fields (each_then shared_then f.pointers (each_then function_then f.functions
    (maybe_then watch_then f.watched
    (each_then ghost_then f.ghosts (maybe_then init_then f.starts (each_then (placed_then op_then) f.ops
    (maybe_then outline_then f.outlined rest)))))))

-- the tokens that spell a file
abbrev pub file_tokens : FileTree → List TokenKind
file_tokens f = kinds_of (file_then f [])
