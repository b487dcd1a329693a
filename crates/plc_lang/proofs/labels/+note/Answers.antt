use Rattle.plc_lang.proofs.Sizes.{line_falls, block_falls}
use Rattle.plc_lang.proofs.labels.+note.Goals as goal

pub note_block-note_statement-requires : goal.note_block-note_statement-requires
note_block-note_statement-requires t c = (
  line_falls 4 c.args.block.now c.lines-line-items.result.now c.loop-line.line-index c.line-item.result t c.lines-line-items.ensures c.loop-line-test.true c.line-item.is c.decreases,
  tt,
)

pub note_blocks-note_block-requires : goal.note_blocks-note_block-requires
note_blocks-note_block-requires t c = (block_falls 4 1 c.args.blocks.now c.loop-block.block-index c.block-item.result t c.loop-block-test.true c.block-item.is c.decreases, tt)
