use Rattle.std.proofs.Common.{◌+◌, ◌*◌, ◌≤◌, ◌∷◌, drop}
use Rattle.plc_tree.specs.Postorder.{statement_size, block_size, else_size, ors_size}
use Rattle.plc_tree.specs.Views.{else_tree, ors_tree, statement_tree, block_tree}
use Rattle.plc_parse.specs.Growth.{CanLabel, GrowsByLabels}
use Rattle.plc_parse.specs.Units.{lines_of}
use Rattle.plc_parse.proofs.Loops.{LinesAreAhead, BlocksAreAhead}
use Rattle.plc_parse.proofs.block.+block.Given as goal

abbrev pub decreases-statement : goal.decreases-statement
decreases-statement l = 8 * statement_size (statement_tree l.stmt.now)

abbrev pub decreases-statements : goal.decreases-statements
decreases-statements l = 8 * block_size l.block.now + 1

abbrev pub decreases-else_block : goal.decreases-else_block
decreases-else_block l = 8 * else_size (else_tree l.block.now) + 2

abbrev pub decreases-if_statement : goal.decreases-if_statement
decreases-if_statement l = 8 * (block_size l.yes.now + else_size (else_tree l.no.now)) + 3

abbrev pub decreases-choose_statement : goal.decreases-choose_statement
decreases-choose_statement l =
    8 * (block_size l.first.now + (block_size l.second.now + ors_size (ors_tree l.others.now))) + 3

abbrev pub invariant-statements-loop-form : goal.invariant-statements-loop-form
invariant-statements-loop-form l = record {
  room : CanLabel l.scope;
  grows : GrowsByLabels l.fn.scope l.scope;
  left : block_size (block_tree (drop l.form-index l.form-items)) ≤ block_size (block_tree l.form-items);
  read : LinesAreAhead (lines_of l.context.tokens.now) l.context.in_loop l.lines.items l.scope
      (drop l.form-index l.form-items) l.fn.scope l.form-items;
}

abbrev pub invariant-choose_statement-loop-block : goal.invariant-choose_statement-loop-block
invariant-choose_statement-loop-block l = record {
  room : CanLabel l.scope;
  grows : GrowsByLabels l.fn.scope l.scope;
  left : ors_size (ors_tree (drop l.block-index l.others)) ≤ ors_size (ors_tree l.fn.others);
  read : BlocksAreAhead (lines_of l.context.tokens.now) l.context.in_loop l.choices.items l.scope
      (drop l.block-index l.others) l.fn.scope (l.fn.first ∷ l.fn.second ∷ l.fn.others);
}
