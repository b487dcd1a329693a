use Rattle.std.proofs.Common.{◌+◌, ◌*◌, [], drop}
use Rattle.plc_lang.specs.Statements.{statement_size, block_size, blocks_size}
use Rattle.plc_lang.specs.Views.{statement_of, block_of, blocks_of}
use Rattle.plc_syntax.specs.Trees.{statements_then, or_then}
use Rattle.plc_print.specs.Canonical.{block_tree, blocks_tree}
use Rattle.plc_print.proofs.Left.{Left}
use Rattle.plc_print.proofs.statements.+statement.Given as goal

abbrev pub decreases-statement : goal.decreases-statement
decreases-statement l = 6 * statement_size (statement_of l.stmt.now)

abbrev pub decreases-statements : goal.decreases-statements
decreases-statements l = 6 * block_size l.block.now + 1

abbrev pub invariant-statements-loop-line : goal.invariant-statements-loop-line
invariant-statements-loop-line l =
    let tree = block_tree l.reach.file.now l.reach.locals.now in
    Left l.initial.out l.out (statements_then (tree (block_of l.line-items)) []) (statements_then (tree (block_of (drop l.line-index l.line-items))) [])

abbrev pub decreases-braced : goal.decreases-braced
decreases-braced l = 6 * block_size l.block.now + 2

abbrev pub decreases-otherwise : goal.decreases-otherwise
decreases-otherwise l = 6 * block_size l.block.now + 3

abbrev pub decreases-or_block : goal.decreases-or_block
decreases-or_block l = 6 * block_size l.block.now + 3

abbrev pub invariant-or_blocks-loop-block : goal.invariant-or_blocks-loop-block
invariant-or_blocks-loop-block l =
    let tree = blocks_tree l.reach.file.now l.reach.locals.now in
    Left l.initial.out l.out (or_then (tree (blocks_of l.blocks)) []) (or_then (tree (blocks_of (drop l.block-index l.blocks))) [])

abbrev pub decreases-or_blocks : goal.decreases-or_blocks
decreases-or_blocks l = 6 * blocks_size (blocks_of l.blocks.now) + 4

abbrev pub decreases-repeat : goal.decreases-repeat
decreases-repeat l = 6 * block_size l.block.now + 5

abbrev pub decreases-choose : goal.decreases-choose
decreases-choose l = 6 * blocks_size (blocks_of l.blocks.now) + 5

abbrev pub decreases-branch : goal.decreases-branch
decreases-branch l = 6 * (block_size l.yes.now + block_size l.no.now) + 5
