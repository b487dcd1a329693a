use Rattle.std.proofs.Common.{◌≡◌, ◌+◌, ◌*◌, ◌++◌, drop}
use Rattle.plc_lang.specs.Statements.{statement_size, block_size, blocks_size}
use Rattle.plc_lang.specs.Views.{statement_of, block_of, blocks_of}
use Rattle.plc_lang.specs.Labels.{block_labels, blocks_labels}
use Rattle.plc_lang.proofs.labels.+note.Given as goal

abbrev pub decreases-note_statement : goal.decreases-note_statement
decreases-note_statement l = 4 * statement_size (statement_of l.stmt.now)

abbrev pub invariant-note_block-loop-line : goal.invariant-note_block-loop-line
invariant-note_block-loop-line l = l.labels ++ block_labels (block_of (drop l.line-index l.line-items)) ≡ l.initial.labels ++ block_labels (block_of l.line-items)

abbrev pub decreases-note_block : goal.decreases-note_block
decreases-note_block l = 4 * block_size l.block.now + 1

abbrev pub invariant-note_blocks-loop-block : goal.invariant-note_blocks-loop-block
invariant-note_blocks-loop-block l = l.labels ++ blocks_labels (blocks_of (drop l.block-index l.blocks)) ≡ l.initial.labels ++ blocks_labels (blocks_of l.blocks)

abbrev pub decreases-note_blocks : goal.decreases-note_blocks
decreases-note_blocks l = 4 * blocks_size (blocks_of l.blocks.now) + 2

abbrev pub decreases-note_both : goal.decreases-note_both
decreases-note_both l = 4 * (block_size l.yes.now + block_size l.no.now) + 2
