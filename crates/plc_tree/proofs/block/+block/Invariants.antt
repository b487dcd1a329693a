use Rattle.std.proofs.Common.{◌≡◌, ◌+◌, ◌-◌, ◌*◌}
use Rattle.plc_syntax.specs.Syntax.{kinds}
use Rattle.plc_tree.specs.Forms.{ors_of, statements_of}
use Rattle.plc_tree.proofs.Loops.{blocks_before, statements_before}
use Rattle.plc_tree.proofs.block.+block.Given as goal

abbrev pub decreases-statements_at : goal.decreases-statements_at
decreases-statements_at l = 16 * l.most

abbrev pub decreases-block_at : goal.decreases-block_at
decreases-block_at l = 16 * l.most + 1

abbrev pub decreases-braced_at : goal.decreases-braced_at
decreases-braced_at l = 16 * l.most + 2

abbrev pub decreases-or_block_at : goal.decreases-or_block_at
decreases-or_block_at l = 16 * l.most + 3

abbrev pub decreases-ors_at : goal.decreases-ors_at
decreases-ors_at l = 16 * l.most + 3

abbrev pub decreases-loop_at : goal.decreases-loop_at
decreases-loop_at l = 16 * l.most + 3

abbrev pub decreases-else_at : goal.decreases-else_at
decreases-else_at l = 16 * l.most + 3

abbrev pub decreases-if_at : goal.decreases-if_at
decreases-if_at l = 16 * l.most + 4

abbrev pub decreases-choose_at : goal.decreases-choose_at
decreases-choose_at l = 16 * l.most + 4

abbrev pub decreases-statement_at : goal.decreases-statement_at
decreases-statement_at l = 16 * l.most + 5

abbrev pub invariant-statements_at-loop-i : goal.invariant-statements_at-loop-i
invariant-statements_at-loop-i l =
    statements_before l.stmts.items (statements_of (l.most - l.i) l.rest.at (kinds l.rest.tokens.now))
    ≡ statements_of l.most l.fn.start.at (kinds l.fn.start.tokens.now)

abbrev pub invariant-ors_at-loop-i : goal.invariant-ors_at-loop-i
invariant-ors_at-loop-i l =
    blocks_before l.others.items (ors_of (l.most - l.i) l.rest.at (kinds l.rest.tokens.now))
    ≡ ors_of l.most l.fn.start.at (kinds l.fn.start.tokens.now)
