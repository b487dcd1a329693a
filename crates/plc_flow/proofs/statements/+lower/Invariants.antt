use Rattle.std.proofs.Common.{◌+◌, ◌*◌, drop}
use Rattle.plc_lang.specs.Statements.{statement_size, block_size, blocks_size}
use Rattle.plc_lang.specs.Views.{statement_of, block_of, blocks_of}
use Rattle.plc_flow.specs.Lowering.{statements_made, blocks_made}
use Rattle.plc_flow.proofs.Remaining.{Left, LeftBranches}
use Rattle.plc_flow.proofs.statements.+lower.Given as goal

abbrev pub decreases-lower_stmt : goal.decreases-lower_stmt
decreases-lower_stmt l = 5 * statement_size (statement_of l.stmt.now)

abbrev pub invariant-lower_block-loop-line : goal.invariant-lower_block-loop-line
invariant-lower_block-loop-line l = Left l.initial.out l.out (statements_made (block_of l.line-items) l.here l.initial.out.points l.initial.at.0) (statements_made (block_of (drop l.line-index l.line-items)) l.here l.out.points l.at.0)

abbrev pub decreases-lower_block : goal.decreases-lower_block
decreases-lower_block l = 5 * block_size l.block.now + 1

abbrev pub decreases-lower_side : goal.decreases-lower_side
decreases-lower_side l = 5 * block_size l.block.now + 2

abbrev pub invariant-lower_branches-loop-block : goal.invariant-lower_branches-loop-block
invariant-lower_branches-loop-block l = LeftBranches l.initial.out l.out l.ends (blocks_made (blocks_of l.blocks) l.here l.initial.out.points l.from.0) (blocks_made (blocks_of (drop l.block-index l.blocks)) l.here l.out.points l.from.0)

abbrev pub decreases-lower_branches : goal.decreases-lower_branches
decreases-lower_branches l = 5 * blocks_size (blocks_of l.blocks.now) + 3

abbrev pub decreases-lower_choose : goal.decreases-lower_choose
decreases-lower_choose l = 5 * blocks_size (blocks_of l.blocks.now) + 4

abbrev pub decreases-lower_loop : goal.decreases-lower_loop
decreases-lower_loop l = 5 * block_size l.block.now + 4

abbrev pub decreases-lower_if : goal.decreases-lower_if
decreases-lower_if l = 5 * (block_size l.yes.now + block_size l.no.now) + 4
