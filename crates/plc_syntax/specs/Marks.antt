-- Which tokens use marks: those among which one of the four words of marks stands. Which trees do, form by form, and
-- that a file's tokens do exactly where its tree does.
use Rattle.std.specs.Prelude.{◌≡◌, Bool, true, false, ◌||◌, Option, Some, None, List}
use Rattle.std.specs.List.{list_any}
use Rattle.plc_lex.specs.declared.token.TokenKind.{TokenKind}
use Rattle.plc_lex.specs.declared.token.TokenKind.TheVariants.{Word}
use Rattle.plc_lex.specs.declared.token.Keyword.TheVariants.{Mark, Unmark, Marked, Unmarked}
use Rattle.plc_syntax.specs.Trees.{ValueTree, NullValue, NewValue, NumberValue, MarkValue, UnmarkValue, PlaceValue}
use Rattle.plc_syntax.specs.Trees.{SetTree, SetName, SetField, InitialTree, InitialSet, InitialGhost}
use Rattle.plc_syntax.specs.Trees.{TestTree, MarkedTest, UnmarkedTest, Compares}
use Rattle.plc_syntax.specs.Trees.{ConditionTree, TestCondition, RefreshCondition, CasCondition}
use Rattle.plc_syntax.specs.Trees.{PrimitiveTree, SetPrimitive, RefreshPrimitive, GhostPrimitive, ActivePrimitive}
use Rattle.plc_syntax.specs.Trees.{AssumePrimitive, SkipPrimitive}
use Rattle.plc_syntax.specs.Trees.{StatementTree, PrimitiveStatement, AtomicStatement, CallStatement, IfStatement}
use Rattle.plc_syntax.specs.Trees.{ChooseStatement, LoopStatement, BreakStatement, ReturnStatement, LabelStatement}
use Rattle.plc_syntax.specs.Trees.{BlockTree, NoStatement, Then, ElseTree, NoElse, ElseBlock, OrTree, NoOr, OrBlock}
use Rattle.plc_syntax.specs.Trees.{OpTree, Operates, FlagTree, RetiredFlag, MarkedFlag}
use Rattle.plc_syntax.specs.Trees.{LiteralTree, FlagLiteral, NotLiteral, EqualityLiteral, ClauseTree, Claims}
use Rattle.plc_syntax.specs.Trees.{ItemTree, InvariantItem, OverItem, AtItem, OutlineTree, Outlined}
use Rattle.plc_syntax.specs.Trees.{Placed, FileTree, file_tokens}

-- the token is one of the four words
abbrev pub is_mark_word : TokenKind → Bool
is_mark_word (Word Mark) = true
is_mark_word (Word Unmark) = true
is_mark_word (Word Marked) = true
is_mark_word (Word Unmarked) = true
is_mark_word k = false

-- one of the tokens is
abbrev pub tokens_use_marks : List TokenKind → Bool
tokens_use_marks ts = list_any is_mark_word ts

-- what is put into a name is `mark` or `unmark` of one
abbrev pub value_uses_marks : ValueTree → Bool
value_uses_marks (MarkValue at n) = true
value_uses_marks (UnmarkValue at n) = true
value_uses_marks (NullValue at) = false
value_uses_marks (NewValue at) = false
value_uses_marks (NumberValue n) = false
value_uses_marks (PlaceValue p) = false

-- an assignment puts such a value into a name
abbrev pub set_uses_marks : SetTree → Bool
set_uses_marks (SetName n v) = value_uses_marks v
set_uses_marks (SetField n f a) = false

-- an assignment of the init block does
abbrev pub initial_uses_marks : InitialTree → Bool
initial_uses_marks (InitialSet s) = set_uses_marks s
initial_uses_marks (InitialGhost g) = false

-- one of the init block's does, where there is one
abbrev pub init_uses_marks : Option (List (Placed InitialTree)) → Bool
init_uses_marks None = false
init_uses_marks (Some sets) = list_any (λ i. initial_uses_marks i.value) sets

-- the test is `marked` or `unmarked`
abbrev pub test_uses_marks : TestTree → Bool
test_uses_marks (MarkedTest n) = true
test_uses_marks (UnmarkedTest n) = true
test_uses_marks (Compares n c a) = false

-- the condition of an `if` is such a test
abbrev pub condition_tree_uses_marks : ConditionTree → Bool
condition_tree_uses_marks (TestCondition t) = test_uses_marks t
condition_tree_uses_marks (RefreshCondition n p) = false
condition_tree_uses_marks (CasCondition a n old new) = false

-- a primitive is such an assignment or assumes such a test
abbrev pub primitive_uses_marks : PrimitiveTree → Bool
primitive_uses_marks (SetPrimitive s) = set_uses_marks s
primitive_uses_marks (RefreshPrimitive r) = false
primitive_uses_marks (GhostPrimitive g) = false
primitive_uses_marks (ActivePrimitive n) = false
primitive_uses_marks (AssumePrimitive t) = test_uses_marks t
primitive_uses_marks SkipPrimitive = false

-- something in a statement, in the statements of a block, in an `else` or in the further blocks of a choice does
abbrev mutual
  pub statement_tree_uses_marks : StatementTree → Bool
  statement_tree_uses_marks (PrimitiveStatement p) = primitive_uses_marks p
  statement_tree_uses_marks (AtomicStatement ps) = list_any (λ p. primitive_uses_marks p.value) ps
  statement_tree_uses_marks (CallStatement f a d) = false
  statement_tree_uses_marks (IfStatement c b e) =
      condition_tree_uses_marks c || block_uses_marks b || else_uses_marks e
  statement_tree_uses_marks (ChooseStatement a b os) =
      block_uses_marks a || (block_uses_marks b || or_uses_marks os)
  statement_tree_uses_marks (LoopStatement b) = block_uses_marks b
  statement_tree_uses_marks BreakStatement = false
  statement_tree_uses_marks ReturnStatement = false
  statement_tree_uses_marks (LabelStatement n) = false

  pub block_uses_marks : BlockTree → Bool
  block_uses_marks NoStatement = false
  block_uses_marks (Then at s b) = statement_tree_uses_marks s || block_uses_marks b

  pub else_uses_marks : ElseTree → Bool
  else_uses_marks NoElse = false
  else_uses_marks (ElseBlock b) = block_uses_marks b

  pub or_uses_marks : OrTree → Bool
  or_uses_marks NoOr = false
  or_uses_marks (OrBlock b os) = block_uses_marks b || or_uses_marks os

-- an operation does where its body does
abbrev pub op_uses_marks : OpTree → Bool
op_uses_marks (Operates n ps locals b) = block_uses_marks b

-- the flag that a literal says or denies is `marked`
abbrev pub flag_uses_marks : FlagTree → Bool
flag_uses_marks (RetiredFlag n) = false
flag_uses_marks (MarkedFlag p) = true

-- a literal says or denies it
abbrev pub literal_tree_uses_marks : LiteralTree → Bool
literal_tree_uses_marks (FlagLiteral f) = flag_uses_marks f
literal_tree_uses_marks (NotLiteral f) = flag_uses_marks f
literal_tree_uses_marks (EqualityLiteral a is_equal b) = false

-- one of the literals of a clause does
abbrev pub clause_tree_uses_marks : ClauseTree → Bool
clause_tree_uses_marks (Claims b l ls) = literal_tree_uses_marks l || list_any (λ l. literal_tree_uses_marks l.value) ls

-- the clause of an item does
abbrev pub item_tree_uses_marks : ItemTree → Bool
item_tree_uses_marks (InvariantItem c) = clause_tree_uses_marks c
item_tree_uses_marks (OverItem n c) = clause_tree_uses_marks c
item_tree_uses_marks (AtItem n ns c) = clause_tree_uses_marks c

-- one of the outline's items does
abbrev pub outline_tree_uses_marks : OutlineTree → Bool
outline_tree_uses_marks (Outlined d items) = list_any item_tree_uses_marks items

-- one does, where there is an outline
abbrev pub outlined_uses_marks : Option OutlineTree → Bool
outlined_uses_marks None = false
outlined_uses_marks (Some o) = outline_tree_uses_marks o

-- a file does where its init block, an operation or its outline does
abbrev pub file_tree_uses_marks : FileTree → Bool
file_tree_uses_marks f =
    init_uses_marks f.starts || list_any (λ o. op_uses_marks o.value) f.ops || outlined_uses_marks f.outlined

-- the tokens of a file use marks exactly where its tree does
abbrev pub TreesSpellTheirMarks : Type 0
TreesSpellTheirMarks = (f : FileTree) → tokens_use_marks (file_tokens f) ≡ file_tree_uses_marks f
