use Rattle.std.proofs.Common.{◌∙◌, arith}
use Rattle.std.proofs.lemmas.Result.{err_from_is_err_and}
use Rattle.plc_lang.proofs.Sizes.{line_falls, block_falls}
use Rattle.plc_flow.specs.Lowering.{statements_made, blocks_made}
use Rattle.plc_lang.specs.Views.{blocks_of}
use Rattle.plc_flow.proofs.Parts.{side_makes, if_makes, choose_makes, loop_makes, line_turn, line_stops, lines_end, block_turn, block_stops, blocks_end}
use Rattle.plc_flow.proofs.statements.+lower.Goals as goal

pub lower_block-lower_stmt-requires : goal.lower_block-lower_stmt-requires
lower_block-lower_stmt-requires t c = (
  line_falls 5 c.args.block.now c.lines-line-items.result.now c.loop-line.line-index c.line-item.result t c.lines-line-items.ensures c.loop-line-test.true c.line-item.is c.decreases,
  c.loop-line.invariant.few,
)

pub lower_branches-lower_side-requires : goal.lower_branches-lower_side-requires
lower_branches-lower_side-requires t c = (
  block_falls 5 2 c.args.blocks.now c.loop-block.block-index c.block-item.result t c.loop-block-test.true c.block-item.is c.decreases,
  c.loop-block.invariant.0.few,
)

pub lower_side-returns : goal.lower_side-returns
lower_side-returns t c =
    side_makes c.args.here c.args.from.0 c.args.prims (statements_made c.args.block.now) c.args.out.now c.point.new.out c.step.new.out c.lower_block.new.out c.in_ok-first.first.0 c.lower_block.result c.in_ok-first.ensures.0 c.in_ok-first.ensures.1 c.in_ok-step.ensures.0 c.lower_block.ensures

pub lower_block-loop-line-preserved : goal.lower_block-loop-line-preserved
lower_block-loop-line-preserved t c =
    line_turn c.args.here c.lines-line-items.result.now c.loop-line.line-index c.loop-line.at.0 c.in_ok-at.at.0 c.line-item.result c.args.out.now c.loop-line.out c.lower_stmt.new.out _ c.loop-line-test.true c.line-item.is c.loop-line.invariant c.in_ok-at.ensures.0 c.in_ok-at.ensures.1

pub lower_block-returns : goal.lower_block-returns
lower_block-returns t c =
    lines_end c.args.here c.lines-line-items.result.now c.loop-line.line-index c.loop-line.at.0 c.args.block.now c.args.out.now.points c.args.from.0 c.args.out.now c.loop-line.out c.lines-line-items.ensures c.loop-line-test.false c.loop-line.auto.line-index-end c.loop-line.invariant

pub lower_block-returns-in_err-at : goal.lower_block-returns-in_err-at
lower_block-returns-in_err-at t c =
    let p = err_from_is_err_and c.from_residual.result c.from_residual.ensures.1 in
    rw (p.1, p.2) (line_stops c.args.here c.lines-line-items.result.now c.loop-line.line-index c.loop-line.at.0 c.line-item.result c.args.block.now c.args.out.now.points c.args.from.0 c.args.out.now c.loop-line.out c.lower_stmt.new.out _ c.lines-line-items.ensures c.loop-line-test.true c.line-item.is c.loop-line.invariant c.in_err-at.ensures)

pub lower_branches-returns-in_err-end : goal.lower_branches-returns-in_err-end
lower_branches-returns-in_err-end t c =
    let p = err_from_is_err_and c.from_residual.result c.from_residual.ensures.1 in
    rw (p.1, p.2) (block_stops c.args.here c.args.from.0 c.args.blocks.now c.loop-block.block-index c.block-item.result c.new.result c.loop-block.ends c.args.out.now c.loop-block.out c.lower_side.new.out _ _ c.new.ensures c.loop-block-test.true c.block-item.is c.loop-block.invariant c.in_err-end.ensures)

pub lower_branches-loop-block-preserved : goal.lower_branches-loop-block-preserved
lower_branches-loop-block-preserved t c =
    block_turn c.args.here c.args.from.0 c.args.blocks.now c.loop-block.block-index c.block-item.result c.new.result c.loop-block.ends c.push.new.self c.in_ok-end.end c.args.out.now c.loop-block.out c.lower_side.new.out _ c.new.ensures c.loop-block-test.true c.block-item.is c.loop-block.invariant c.in_ok-end.ensures.0 c.in_ok-end.ensures.1 c.in_ok-push.ensures.ok

pub lower_branches-returns : goal.lower_branches-returns
lower_branches-returns t c =
    blocks_end c.args.here c.args.from.0 c.args.blocks.now c.loop-block.block-index c.loop-block.ends c.args.out.now c.loop-block.out _ c.loop-block-test.false c.loop-block.auto.block-index-end c.loop-block.invariant

pub lower_choose-returns : goal.lower_choose-returns
lower_choose-returns t c =
    choose_makes c.args.here c.args.from.0 (blocks_made (blocks_of c.args.blocks.now)) c.args.out.now c.lower_branches.new.out c.point.new.out c.join_all.new.out c.as_slice.result.now c.in_ok-after.after.0 c.join_all.result c.in_ok-ends.ensures.0 (c.as_slice.ensures ∙ c.in_ok-ends.ensures.1) c.in_ok-after.ensures.0 c.in_ok-after.ensures.1 c.join_all.ensures

pub lower_if-returns : goal.lower_if-returns
lower_if-returns t c =
    if_makes c.args.here c.args.from.0 c.args.cond c.in_ok-true_prims.field-0 c.in_ok-false_prims.field-0 c.new.result c.new-2.result (statements_made c.args.yes.now) (statements_made c.args.no.now) c.args.out.now c.lower_side.new.out c.lower_side-2.new.out c.point.new.out c.step.new.out c.step-2.new.out c.in_ok-first.first.0 c.in_ok-second.second.0 c.in_ok-join.join.0 c.step-2.result c.in_ok-true_prims.ensures c.in_ok-false_prims.ensures c.new.ensures c.new-2.ensures c.in_ok-first.ensures.0 c.in_ok-first.ensures.1 c.in_ok-second.ensures.0 c.in_ok-second.ensures.1 c.in_ok-join.ensures.0 c.in_ok-join.ensures.1 c.in_ok-step.ensures.0 c.step-2.ensures

pub lower_loop-returns : goal.lower_loop-returns
lower_loop-returns t c =
    (loop_makes c.args.here c.args.from.0 c.new.result c.new-2.result (statements_made c.args.block.now) c.args.out.now c.point.new.out c.point-2.new.out c.step.new.out c.lower_block.new.out c.step-2.new.out c.in_ok-head.head.0 c.in_ok-after.after.0 c.in_ok-end.end.0 c.new.ensures c.new-2.ensures c.in_ok-head.ensures.0 c.in_ok-head.ensures.1 c.in_ok-after.ensures.0 c.in_ok-after.ensures.1 c.in_ok-step.ensures.0 c.in_ok-end.ensures.0 c.in_ok-end.ensures.1 c.in_ok-step-2.ensures.0, omega (arith, c.in_ok-after.ensures.1, c.in_ok-head.ensures.0.points))
