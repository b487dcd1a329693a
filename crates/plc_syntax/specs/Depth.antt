-- How deep the blocks of a file's trees stand within one another, and that the braces of its tokens say the same.
use Rattle.std.specs.Prelude.{◌≤◌, ◌↔◌, ℕ, suc, max, List, [], ◌∷◌}
use Rattle.plc_syntax.specs.Trees.{StatementTree, PrimitiveStatement, AtomicStatement, CallStatement, IfStatement}
use Rattle.plc_syntax.specs.Trees.{ChooseStatement, LoopStatement, BreakStatement, ReturnStatement, LabelStatement}
use Rattle.plc_syntax.specs.Trees.{BlockTree, NoStatement, Then, ElseTree, NoElse, ElseBlock, OrTree, NoOr, OrBlock}
use Rattle.plc_syntax.specs.Trees.{Placed, OpTree, Operates, FileTree, file_tokens}
use Rattle.plc_syntax.specs.Nesting.{nesting_limit, NoneTooDeep}

-- how many blocks stand within one another in a statement, and in those of a block
abbrev mutual
  pub statement_depth : StatementTree → ℕ
  statement_depth (PrimitiveStatement p) = 0
  statement_depth (AtomicStatement ps) = 0
  statement_depth (CallStatement f a d) = 0
  statement_depth (IfStatement c b e) = max (suc (block_depth b)) (else_depth e)
  statement_depth (ChooseStatement a b os) = max (suc (block_depth a)) (max (suc (block_depth b)) (or_depth os))
  statement_depth (LoopStatement b) = suc (block_depth b)
  statement_depth BreakStatement = 0
  statement_depth ReturnStatement = 0
  statement_depth (LabelStatement n) = 0

  pub block_depth : BlockTree → ℕ
  block_depth NoStatement = 0
  block_depth (Then at s b) = max (statement_depth s) (block_depth b)

  pub else_depth : ElseTree → ℕ
  else_depth NoElse = 0
  else_depth (ElseBlock b) = suc (block_depth b)

  pub or_depth : OrTree → ℕ
  or_depth NoOr = 0
  or_depth (OrBlock b os) = max (suc (block_depth b)) (or_depth os)

-- how many within an operation's own braces, which are those of no block
abbrev pub op_depth : OpTree → ℕ
op_depth (Operates n ps locals b) = block_depth b

-- the deepest of the operations
abbrev pub ops_depth : List (Placed OpTree) → ℕ
ops_depth [] = 0
ops_depth (x ∷ xs) = max (op_depth x.value) (ops_depth xs)

-- how many blocks stand within one another in a file
abbrev pub file_depth : FileTree → ℕ
file_depth f = ops_depth f.ops

-- no block of a file's tokens stands too deep exactly where at most so many as are allowed stand within one another
abbrev pub DepthIsThatOfBraces : Type 0
DepthIsThatOfBraces = (f : FileTree) → NoneTooDeep (file_tokens f) ↔ (file_depth f ≤ nesting_limit)
