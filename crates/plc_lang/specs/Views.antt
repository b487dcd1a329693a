-- The trees of the program's statements and blocks.
use Rattle.std.specs.Prelude.{List, [], ◌∷◌}
use Rattle.plc_lang.specs.declared.syntax.Stmt.{Stmt}
use Rattle.plc_lang.specs.declared.syntax.Stmt.TheVariants as stmts
use Rattle.plc_lang.specs.declared.syntax.Line.{Line}
use Rattle.plc_lang.specs.Statements.{Statement, One, Atomic, Call, If, Choose, Loop, Break, Return, Skip, Label}
use Rattle.plc_lang.specs.Statements.{Statements, Empty, Then, Blocks, NoBlock, And}

-- blocks side by side
abbrev pub blocks_of : List Statements → Blocks
blocks_of [] = NoBlock
blocks_of (b ∷ bs) = And b (blocks_of bs)

-- a statement
abbrev pub statement_of : Stmt → Statement
statement_of (stmts.One k) = One k
statement_of (stmts.Atomic ks) = Atomic ks
statement_of (stmts.Call f a b d) = Call f a b d
statement_of (stmts.If c y n) = If c y n
statement_of (stmts.Choose bs) = Choose (blocks_of bs.items)
statement_of (stmts.Loop b) = Loop b
statement_of stmts.Break = Break
statement_of stmts.Return = Return
statement_of stmts.Skip = Skip
statement_of (stmts.Label l) = Label l

-- the lines of a block
abbrev pub block_of : List Line → Statements
block_of [] = Empty
block_of (l ∷ ls) = Then l.line (statement_of l.stmt) (block_of ls)
