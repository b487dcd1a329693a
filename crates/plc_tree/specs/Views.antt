-- The trees of statements and blocks. Names are those of the tokens, so a form stands for the tree with their bytes.
use Rattle.std.specs.Prelude.{List, [], ◌∷◌, Option, Some, None, map}
use Rattle.plc_syntax.specs.Trees.{StatementTree, PrimitiveStatement, AtomicStatement, CallStatement, IfStatement}
use Rattle.plc_syntax.specs.Trees.{ChooseStatement, LoopStatement, BreakStatement, ReturnStatement, LabelStatement}
use Rattle.plc_syntax.specs.Trees.{BlockTree, NoStatement, Then, ElseTree, NoElse, ElseBlock, OrTree, NoOr, OrBlock}
use Rattle.plc_syntax.specs.Views.{placed_as, name_tree, name_or_none, primitive_tree, condition_tree, argument_tree}
use Rattle.plc_syntax.specs.declared.form.Placed.{Placed}
use Rattle.plc_tree.specs.declared.tree.Stmt.{Stmt}
use Rattle.plc_tree.specs.declared.tree.Stmt.TheVariants as stmts

-- an `else` that is there or not
abbrev pub else_tree : Option BlockTree → ElseTree
else_tree None = NoElse
else_tree (Some b) = ElseBlock b

-- the blocks of a choice after its second
abbrev pub ors_tree : List BlockTree → OrTree
ors_tree [] = NoOr
ors_tree (b ∷ bs) = OrBlock b (ors_tree bs)

abbrev pub statement_tree : Stmt → StatementTree
statement_tree (stmts.Primitive p) = PrimitiveStatement (primitive_tree p)
statement_tree (stmts.Atomic ps) = AtomicStatement (map (placed_as primitive_tree) ps)
statement_tree (stmts.Call f a d) = CallStatement (name_tree f) (argument_tree a) (name_or_none d)
statement_tree (stmts.If c b e) = IfStatement (condition_tree c) b (else_tree e)
statement_tree (stmts.Choose a b os) = ChooseStatement a b (ors_tree os.items)
statement_tree (stmts.Loop b) = LoopStatement b
statement_tree stmts.Break = BreakStatement
statement_tree stmts.Return = ReturnStatement
statement_tree (stmts.Label n) = LabelStatement (name_tree n)

abbrev pub block_tree : List (Placed Stmt) → BlockTree
block_tree [] = NoStatement
block_tree (s ∷ ss) = Then s.at (statement_tree s.value) (block_tree ss)
