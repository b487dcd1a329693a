-- A block within a statement is smaller than the block in which the statement stands.
use Rattle.std.specs.Prelude.{ℕ, ◌+◌, ◌≤◌, max, List, [], ◌∷◌, Some, None}
use Rattle.std.proofs.Common.{arith}
use denote.Param.Weighed.{most}
use Rattle.plc_syntax.specs.Trees.{BlockTree}
use Rattle.plc_syntax.specs.declared.form.Placed.{Placed}
use Rattle.plc_tree.specs.declared.tree.Stmt.{Stmt}
use Rattle.plc_tree.specs.declared.tree.Stmt.TheVariants as stmts
use Rattle.plc_tree.specs.declared.tree.Block.TheDeep.{deep-Stmt}
use Rattle.plc_tree.specs.Postorder.{statement_size, block_size, ors_size}
use Rattle.plc_tree.specs.Views.{statement_tree, block_tree, ors_tree}

-- no further block of a choice is larger than the choice
choice_falls : (bs : List BlockTree) → most (λ b. block_size b + 1) bs ≤ 1 + ors_size (ors_tree bs)
choice_falls [] = omega arith
choice_falls (b ∷ bs) = omega (arith, choice_falls bs)

-- no block of a statement is larger than the statement
statement_falls : (s : Stmt) → deep-Stmt s ≤ statement_size (statement_tree s)
statement_falls (stmts.If c b None) = omega arith
statement_falls (stmts.If c b (Some e)) = omega arith
statement_falls (stmts.Choose a b os) = omega (arith, choice_falls os.items)
statement_falls _ = omega arith

-- what a statement at its place holds
abbrev placed_deep : Placed Stmt → ℕ
placed_deep s = max 0 (max (deep-Stmt s.value) 0)

-- no block of a statement is larger than the statements
pub statements_fall : (ss : List (Placed Stmt)) → most placed_deep ss ≤ block_size (block_tree ss)
statements_fall [] = omega arith
statements_fall (s ∷ ss) = omega (arith, statement_falls s.value, statements_fall ss)
