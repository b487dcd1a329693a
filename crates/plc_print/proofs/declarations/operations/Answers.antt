use Rattle.plc_syntax.specs.Trees.{placed_then, op_then}
use Rattle.plc_print.specs.Canonical.{op_tree}
use Rattle.plc_print.proofs.Parts.{placed_leads, printed_at, each_printed, op_leads}
use Rattle.plc_print.proofs.declarations.operations.Goals as goal
use Rattle.plc_print.specs.Outlines.{bare}

pub loop-op-preserved : goal.loop-op-preserved
loop-op-preserved c =
    each_printed (placed_then op_then) (placed_leads op_then op_leads) (λ o. bare (op_tree c.args.file.now o)) c.args.ops.now c.loop-op.op-index c.op-item.result c.loop-op-test.true c.op-item.is
    c.loop-op.out.text.items c.loop-op.invariant (printed_at 0 (op_then (op_tree c.args.file.now c.op-item.result)) c.loop-op.out.text.items c.in_ok-operation.ensures)
