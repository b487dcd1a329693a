-- A block within a statement is smaller than the block in which the statement stands.
use Rattle.std.specs.Prelude.{◌+◌, ◌≤◌, List, [], ◌∷◌}
use Rattle.std.proofs.Common.{arith}
use denote.Param.Weighed.{most}
use Rattle.plc_lang.specs.declared.syntax.Stmt.{Stmt}
use Rattle.plc_lang.specs.declared.syntax.Stmt.TheVariants as stmts
use Rattle.plc_lang.specs.declared.syntax.Line.{Line}
use Rattle.plc_lang.specs.declared.block.Block.TheDeep.{deep-Stmt, deep-Line}
use Rattle.plc_lang.specs.Statements.{Statements, statement_size, block_size, blocks_size}
use Rattle.plc_lang.specs.Views.{statement_of, block_of, blocks_of}

-- no block of a choice is larger than the choice
choice_falls : (bs : List Statements) → most (λ b. block_size b + 1) bs ≤ 1 + blocks_size (blocks_of bs)
choice_falls [] = omega arith
choice_falls (b ∷ bs) = omega (arith, choice_falls bs)

-- no block of a statement is larger than the statement
statement_falls : (s : Stmt) → deep-Stmt s ≤ statement_size (statement_of s)
statement_falls (stmts.One k) = omega arith
statement_falls (stmts.Atomic ks) = omega arith
statement_falls (stmts.Call f a b d) = omega arith
statement_falls (stmts.If c y n) = omega arith
statement_falls (stmts.Choose bs) = omega (arith, choice_falls bs.items)
statement_falls (stmts.Loop b) = omega arith
statement_falls stmts.Break = omega arith
statement_falls stmts.Return = omega arith
statement_falls stmts.Skip = omega arith
statement_falls (stmts.Label l) = omega arith

-- no block of a line is larger than the lines
pub lines_fall : (ls : List Line) → most deep-Line ls ≤ block_size (block_of ls)
lines_fall [] = omega arith
lines_fall (l ∷ ls) = omega (arith, statement_falls l.stmt, lines_fall ls)
