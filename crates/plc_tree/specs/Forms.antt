-- What is read at the front of tokens of forms that hold lists or blocks, over the forms without them. A number ends
-- the recursion of what has parts of any number: each of them takes a token, so where it is above that of the tokens it
-- makes no difference.
use Rattle.std.specs.Prelude.{ℕ, zero, suc, Bool, true, false, cond, Option, Some, None, List, [], ◌∷◌, Ok, Err}
use Rattle.plc_lex.specs.declared.token.TokenKind.{TokenKind}
use Rattle.plc_lex.specs.declared.token.TokenKind.TheVariants.{Word, Name, Symbol}
use Rattle.plc_lex.specs.declared.token.Keyword.{Keyword}
use Rattle.plc_lex.specs.declared.token.Keyword.TheVariants.{Struct, Ptr, Data, Shared, Call, Ghost, Thread, Init, Op}
use Rattle.plc_lex.specs.declared.token.Keyword.TheVariants.{Atomic, If, Else, Loop, Break, Return, Skip, Choose, Or}
use Rattle.plc_lex.specs.declared.token.Keyword.TheVariants.{Label, Active, Assume, Outline, Inv, Over, At}
use Rattle.plc_lex.specs.declared.token.Symbol.TheVariants.{OpenBrace, CloseBrace, OpenParen, CloseParen, Semicolon}
use Rattle.plc_lex.specs.declared.token.Symbol.TheVariants.{Comma, Colon}
use Rattle.plc_syntax.specs.Trees.{Text, Placed, FieldTree, FunctionTree, GhostKindTree, OneOf, OfThreads, GhostTree}
use Rattle.plc_syntax.specs.Trees.{Auxiliary}
use Rattle.plc_syntax.specs.Trees.{InitialTree, PrimitiveTree, StatementTree, PrimitiveStatement, AtomicStatement}
use Rattle.plc_syntax.specs.Trees.{CallStatement, IfStatement, ChooseStatement, LoopStatement, BreakStatement}
use Rattle.plc_syntax.specs.Trees.{ReturnStatement, LabelStatement, BlockTree, NoStatement, Then, ElseTree, NoElse}
use Rattle.plc_syntax.specs.Trees.{ElseBlock, OrTree, NoOr, OrBlock, OpTree, Operates, LiteralTree, ClauseTree, Claims}
use Rattle.plc_syntax.specs.Trees.{ItemTree, InvariantItem, OverItem, AtItem, OutlineTree, Outlined, FileTree}
use Rattle.plc_syntax.specs.Trees.{ConditionTree}
use Rattle.plc_syntax.specs.Forms.{Reader, ◌>>=◌, ◌>>◌, Next, led, alone, first_is, list_of, word_of, symbol_of}
use Rattle.plc_syntax.specs.Forms.{ended_by, at_place, placed_of, name_of, name_and}
use Rattle.plc_syntax.specs.Forms.{comma_name_of, condition_of, named_tail_of, primitive_line_of, initial_of}
use Rattle.plc_syntax.specs.Forms.{argument_of, during_of, field_of, shared_of, function_of, watch_of, literal_of}
use Rattle.plc_syntax.specs.Forms.{or_literal_of, bound_of, depth_of}

-- ---- a form between symbols

-- a form and the closing brace
abbrev pub closed_of : {A : Type 0} → Reader A → Reader A
closed_of form at ts = ended_by CloseBrace form at ts

-- the opening brace and what stands after it
abbrev pub braced_of : {A : Type 0} → Reader A → Reader A
braced_of form at ts = symbol_of OpenBrace at ts >> λ at ts. form at ts

-- ---- names after a comma

abbrev pub begins_comma_name : TokenKind → Bool
begins_comma_name (Symbol Comma) = true
begins_comma_name _ = false

abbrev pub comma_names_of : ℕ → Reader (List (Placed Text))
comma_names_of m at ts = list_of begins_comma_name (λ m at ts. comma_name_of at ts) m at ts

-- ---- primitives

abbrev pub begins_primitive : TokenKind → Bool
begins_primitive (Name n) = true
begins_primitive (Word Ghost) = true
begins_primitive (Word Active) = true
begins_primitive (Word Assume) = true
begins_primitive (Word Skip) = true
begins_primitive _ = false

abbrev pub primitives_of : ℕ → Reader (List (Placed PrimitiveTree))
primitives_of m at ts = list_of begins_primitive (λ m at ts. placed_of primitive_line_of at ts) m at ts

-- ---- the assignments of `init`

abbrev pub begins_initial : TokenKind → Bool
begins_initial (Name n) = true
begins_initial (Word Ghost) = true
begins_initial _ = false

abbrev pub initials_of : ℕ → Reader (List (Placed InitialTree))
initials_of m at ts = list_of begins_initial (λ m at ts. placed_of initial_of at ts) m at ts

-- ---- statements without blocks of statements

-- a call, from after its opening parenthesis
abbrev pub call_of : Placed Text → Reader StatementTree
call_of f at ts = argument_of at ts >>= λ a at ts.
    symbol_of CloseParen at ts >> λ at ts. during_of at ts >>= λ d at ts.
    symbol_of Semicolon at ts >> λ at ts. Ok (CallStatement f a d, at, ts)

abbrev pub named_statement_next : Placed Text → Next StatementTree
named_statement_next n place (Symbol OpenParen) = Some (λ at ts. call_of n at ts)
named_statement_next n place _ = None

-- a call or a primitive, from after the name with which it begins
abbrev pub named_statement_of : Placed Text → Reader StatementTree
named_statement_of n at ts = led (named_statement_next n) (named_tail_of n at ts >>= λ p at ts.
    symbol_of Semicolon at ts >> λ at ts. Ok (PrimitiveStatement p, at, ts)) at ts

-- an atomic block, from after its word; at most so many primitives
abbrev pub atomic_of : ℕ → Reader StatementTree
atomic_of m at ts = braced_of (closed_of (primitives_of m)) at ts >>= λ ps at ts. Ok (AtomicStatement ps, at, ts)

-- a statement and its semicolon, from after its word
abbrev pub ended_of : StatementTree → Reader StatementTree
ended_of s at ts = symbol_of Semicolon at ts >> λ at ts. Ok (s, at, ts)

abbrev pub label_of : Reader StatementTree
label_of at ts = name_and Semicolon at ts >>= λ n at ts. Ok (LabelStatement n, at, ts)

-- a primitive as a statement
abbrev pub step_of : Reader StatementTree
step_of at ts = primitive_line_of at ts >>= λ p at ts. Ok (PrimitiveStatement p, at, ts)

-- ---- blocks; `block` reads what stands after an opening brace, `ors` the blocks of a choice after its second

abbrev pub BlockReader : Type 0
BlockReader = Reader BlockTree

abbrev pub OrsReader : Type 0
OrsReader = Reader OrTree

-- a loop, from after its word
unfoldable pub loop_of : BlockReader → Reader StatementTree
loop_of block at ts = braced_of block at ts >>= λ b at ts. Ok (LoopStatement b, at, ts)

abbrev pub else_next : BlockReader → Next ElseTree
else_next block place (Word Else) = Some (λ at ts. braced_of block at ts >>= λ b at ts. Ok (ElseBlock b, at, ts))
else_next block place _ = None

-- an `else` and its block, which may be left out
unfoldable pub else_of : BlockReader → Reader ElseTree
else_of block at ts = led (else_next block) (Ok (NoElse, at, ts)) at ts

-- the condition of an `if` and its parentheses
abbrev pub guard_of : Reader ConditionTree
guard_of at ts = symbol_of OpenParen at ts >> λ at ts. ended_by CloseParen condition_of at ts

-- an `if`, from after its word
unfoldable pub if_of : BlockReader → Reader StatementTree
if_of block at ts = guard_of at ts >>= λ c at ts. braced_of block at ts >>= λ b at ts.
    else_of block at ts >>= λ e at ts. Ok (IfStatement c b e, at, ts)

-- a choice, from after its word
unfoldable pub choose_of : BlockReader → OrsReader → Reader StatementTree
choose_of block ors at ts = braced_of block at ts >>= λ a at ts. word_of Or at ts >> λ at ts.
    braced_of block at ts >>= λ b at ts. ors at ts >>= λ os at ts. Ok (ChooseStatement a b os, at, ts)

abbrev pub statement_next : BlockReader → OrsReader → ℕ → Next StatementTree
statement_next block ors m place (Name f) = Some (λ at ts. named_statement_of (at_place place f) at ts)
statement_next block ors m place (Word Atomic) = Some (λ at ts. atomic_of m at ts)
statement_next block ors m place (Word If) = Some (λ at ts. if_of block at ts)
statement_next block ors m place (Word Choose) = Some (λ at ts. choose_of block ors at ts)
statement_next block ors m place (Word Loop) = Some (λ at ts. loop_of block at ts)
statement_next block ors m place (Word Break) = Some (λ at ts. ended_of BreakStatement at ts)
statement_next block ors m place (Word Return) = Some (λ at ts. ended_of ReturnStatement at ts)
statement_next block ors m place (Word Label) = Some (λ at ts. label_of at ts)
statement_next block ors m place _ = None

unfoldable pub statement_of : BlockReader → OrsReader → ℕ → Reader StatementTree
statement_of block ors m at ts = led (statement_next block ors m) (step_of at ts) at ts

-- the words with which a statement begins
abbrev pub is_statement_word : Keyword → Bool
is_statement_word Atomic = true
is_statement_word If = true
is_statement_word Choose = true
is_statement_word Loop = true
is_statement_word Break = true
is_statement_word Return = true
is_statement_word Label = true
is_statement_word w = begins_primitive (Word w)

abbrev pub begins_statement : TokenKind → Bool
begins_statement (Word w) = is_statement_word w
begins_statement (Name n) = true
begins_statement _ = false

abbrev pub begins_or : TokenKind → Bool
begins_or (Word Or) = true
begins_or _ = false

abbrev pub or_block_next : BlockReader → Next BlockTree
or_block_next block place (Word Or) = Some (λ at ts. braced_of block at ts)
or_block_next block place _ = None

-- a further block of a choice
abbrev pub or_block_of : BlockReader → BlockReader
or_block_of block at ts = led (or_block_next block) (Err at) at ts

abbrev mutual
  -- statements; at most so many after and within one another
  pub statements_of : ℕ → BlockReader
  statements_of zero at ts = Err at
  statements_of (suc n) at ts = cond (first_is begins_statement ts)
      (placed_of (statement_of (λ at ts. closed_of (λ at ts. statements_of n at ts) at ts) (λ at ts. ors_of n at ts) n)
      at ts >>= λ s at ts. statements_of n at ts >>= λ b at ts. Ok (Then s.at s.value b, at, ts))
      (Ok (NoStatement, at, ts))

  -- at most so many further blocks of a choice
  pub ors_of : ℕ → OrsReader
  ors_of zero at ts = Err at
  ors_of (suc n) at ts = cond (first_is begins_or ts)
      (or_block_of (λ at ts. closed_of (λ at ts. statements_of n at ts) at ts) at ts
      >>= λ b at ts. ors_of n at ts >>= λ os at ts. Ok (OrBlock b os, at, ts)) (Ok (NoOr, at, ts))

-- what stands after the opening brace of a block
abbrev pub block_of : ℕ → BlockReader
block_of n at ts = closed_of (statements_of n) at ts

-- ---- declarations

abbrev pub begins_field : TokenKind → Bool
begins_field (Word Ptr) = true
begins_field (Word Data) = true
begins_field _ = false

abbrev pub fields_of : ℕ → Reader (List FieldTree)
fields_of m at ts = list_of begins_field (λ m at ts. field_of at ts) m at ts

abbrev pub begins_shared : TokenKind → Bool
begins_shared (Word Shared) = true
begins_shared _ = false

abbrev pub pointers_of : ℕ → Reader (List (Placed Text))
pointers_of m at ts = list_of begins_shared (λ m at ts. shared_of at ts) m at ts

abbrev pub begins_function : TokenKind → Bool
begins_function (Word Call) = true
begins_function _ = false

abbrev pub functions_of : ℕ → Reader (List FunctionTree)
functions_of m at ts = list_of begins_function (λ m at ts. function_of at ts) m at ts

-- the values of an auxiliary field, from after the opening brace
abbrev pub values_of : ℕ → Reader GhostKindTree
values_of m at ts = name_of at ts >>= λ v at ts. closed_of (comma_names_of m) at ts >>= λ vs at ts.
    Ok (OneOf v vs, at, ts)

abbrev pub ghost_kind_next : ℕ → Next GhostKindTree
ghost_kind_next m place (Symbol OpenBrace) = Some (λ at ts. values_of m at ts)
ghost_kind_next m place (Word Thread) = alone OfThreads
ghost_kind_next m place _ = None

abbrev pub ghost_kind_of : ℕ → Reader GhostKindTree
ghost_kind_of m at ts = led (ghost_kind_next m) (Err at) at ts

-- an auxiliary field, from after its word
abbrev pub ghost_tail_of : ℕ → Reader GhostTree
ghost_tail_of m at ts = name_of at ts >>= λ n at ts. ghost_kind_of m at ts >>= λ k at ts.
    symbol_of Semicolon at ts >> λ at ts. Ok (Auxiliary n k, at, ts)

abbrev pub ghost_next : ℕ → Next GhostTree
ghost_next m place (Word Ghost) = Some (λ at ts. ghost_tail_of m at ts)
ghost_next m place _ = None

abbrev pub begins_ghost : TokenKind → Bool
begins_ghost (Word Ghost) = true
begins_ghost _ = false

abbrev pub ghost_of : ℕ → Reader GhostTree
ghost_of m at ts = led (ghost_next m) (Err at) at ts

abbrev pub ghosts_of : ℕ → Reader (List GhostTree)
ghosts_of m at ts = list_of begins_ghost (λ m at ts. ghost_of m at ts) m at ts

abbrev pub init_next : ℕ → Next (Option (List (Placed InitialTree)))
init_next m place (Word Init) =
    Some (λ at ts. braced_of (closed_of (initials_of m)) at ts >>= λ sets at ts. Ok (Some sets, at, ts))
init_next m place _ = None

-- the init block, which may be left out
abbrev pub init_of : ℕ → Reader (Option (List (Placed InitialTree)))
init_of m at ts = led (init_next m) (Ok (None, at, ts)) at ts

-- ---- operations

abbrev pub parameters_next : ℕ → Next (List (Placed Text))
parameters_next m place (Name n) =
    Some (λ at ts. ended_by CloseParen (comma_names_of m) at ts >>= λ ns at ts. Ok (at_place place n ∷ ns, at, ts))
parameters_next m place (Symbol CloseParen) = alone []
parameters_next m place _ = None

-- parameters, of which there may be none, and the closing parenthesis
abbrev pub parameters_of : ℕ → Reader (List (Placed Text))
parameters_of m at ts = led (parameters_next m) (Err at) at ts

-- an operation, from after its word
abbrev pub op_tail_of : ℕ → Reader OpTree
op_tail_of m at ts = name_and OpenParen at ts >>= λ n at ts. parameters_of m at ts >>= λ ps at ts.
    symbol_of OpenBrace at ts >> λ at ts. fields_of m at ts >>= λ ls at ts.
    block_of m at ts >>= λ b at ts. Ok (Operates n ps ls b, at, ts)

abbrev pub op_next : ℕ → Next OpTree
op_next m place (Word Op) = Some (λ at ts. op_tail_of m at ts)
op_next m place _ = None

abbrev pub begins_op : TokenKind → Bool
begins_op (Word Op) = true
begins_op _ = false

abbrev pub op_of : ℕ → Reader OpTree
op_of m at ts = led (op_next m) (Err at) at ts

abbrev pub ops_of : ℕ → Reader (List (Placed OpTree))
ops_of m at ts = list_of begins_op (λ m at ts. placed_of (op_of m) at ts) m at ts

-- ---- clauses of an outline

abbrev pub or_literals_of : ℕ → Reader (List (Placed LiteralTree))
or_literals_of m at ts = list_of begins_or (λ m at ts. or_literal_of at ts) m at ts

-- a clause and its semicolon
abbrev pub clause_of : ℕ → Reader ClauseTree
clause_of m at ts = bound_of at ts >>= λ b at ts. literal_of at ts >>= λ l at ts.
    ended_by Semicolon (or_literals_of m) at ts >>= λ ls at ts. Ok (Claims b l ls, at, ts)

-- ---- items, and the outline

-- an item over an operation, from after its word
abbrev pub over_of : ℕ → Reader ItemTree
over_of m at ts = name_and Colon at ts >>= λ n at ts.
    clause_of m at ts >>= λ c at ts. Ok (OverItem n c, at, ts)

-- an item at labels, from after its word
abbrev pub at_of : ℕ → Reader ItemTree
at_of m at ts = name_of at ts >>= λ n at ts. ended_by Colon (comma_names_of m) at ts >>= λ ns at ts.
    clause_of m at ts >>= λ c at ts. Ok (AtItem n ns c, at, ts)

abbrev pub item_next : ℕ → Next ItemTree
item_next m place (Word Inv) = Some (λ at ts. clause_of m at ts >>= λ c at ts. Ok (InvariantItem c, at, ts))
item_next m place (Word Over) = Some (λ at ts. over_of m at ts)
item_next m place (Word At) = Some (λ at ts. at_of m at ts)
item_next m place _ = None

abbrev pub begins_item : TokenKind → Bool
begins_item (Word Inv) = true
begins_item (Word Over) = true
begins_item (Word At) = true
begins_item _ = false

abbrev pub item_of : ℕ → Reader ItemTree
item_of m at ts = led (item_next m) (Err at) at ts

abbrev pub items_of : ℕ → Reader (List ItemTree)
items_of m at ts = list_of begins_item (λ m at ts. item_of m at ts) m at ts

-- an outline, from after its word
abbrev pub outline_tail_of : ℕ → Reader OutlineTree
outline_tail_of m at ts = symbol_of OpenBrace at ts >> λ at ts. depth_of at ts >>= λ d at ts.
    closed_of (items_of m) at ts >>= λ is at ts. Ok (Outlined d is, at, ts)

abbrev pub outline_of : ℕ → Reader OutlineTree
outline_of m at ts = word_of Outline at ts >> λ at ts. outline_tail_of m at ts

abbrev pub outlined_next : ℕ → Next (Option OutlineTree)
outlined_next m place (Word Outline) = Some (λ at ts. outline_tail_of m at ts >>= λ o at ts. Ok (Some o, at, ts))
outlined_next m place _ = None

-- an outline, which may be left out
abbrev pub outlined_of : ℕ → Reader (Option OutlineTree)
outlined_of m at ts = led (outlined_next m) (Ok (None, at, ts)) at ts

-- ---- the file

-- "struct", the struct's name and its fields
abbrev pub struct_of : ℕ → Reader (Placed Text × List FieldTree)
struct_of m at ts = word_of Struct at ts >> λ at ts. name_of at ts >>= λ n at ts.
    braced_of (closed_of (fields_of m)) at ts >>= λ fs at ts. Ok ((n, fs), at, ts)

-- what stands before the operations, with none and no outline
abbrev pub heading_of : ℕ → Reader FileTree
heading_of m at ts = struct_of m at ts >>= λ s at ts. pointers_of m at ts >>= λ ps at ts.
    functions_of m at ts >>= λ fs at ts. watch_of at ts >>= λ w at ts.
    ghosts_of m at ts >>= λ gs at ts. init_of m at ts >>= λ i at ts. Ok (
      record {
        name = s.0;
        fields = s.1;
        pointers = ps;
        functions = fs;
        watched = w;
        ghosts = gs;
        starts = i;
        ops = [];
        outlined = None;
      },
      at,
      ts,
    )

-- a file
abbrev pub file_of : ℕ → Reader FileTree
file_of m at ts = heading_of m at ts >>= λ h at ts. ops_of m at ts >>= λ os at ts.
    outlined_of m at ts >>= λ o at ts. Ok (record h { ops = os; outlined = o }, at, ts)
