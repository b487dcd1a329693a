use Rattle.std.proofs.Common.{sym, ◌∙◌, ap, set, get_or, false}
use Rattle.plc_mem.specs.declared.cell.Cell.{Cell}
use Rattle.plc_mem.specs.State.{cut}
use Rattle.plc_base.proofs.Lists.{mapped_more}
use Rattle.plc_mem.proofs.Places.{cut_keeps, cut_clears}
use Rattle.plc_mem.proofs.cells.cut_cells.Goals.{then-cell-a, else-cell-a}
use Rattle.plc_mem.proofs.cells.cut_cells.Goals as goal

pub loop-cell-preserved : goal.loop-cell-preserved
loop-cell-preserved c =
    let d : Cell = record { number = 0; mark = false; valid = false } in
    let x : Cell = get_or c.loop-cell.cells c.loop-cell.cell-index d in
    mapped_more (cut c.args.a) c.args.cells.now c.loop-cell.cells c.if-cell-a.cells c.loop-cell.cell-index d c.loop-cell-test.true c.loop-cell.invariant
    (elim c.if-cell-a.branch [
      | then-cell-a w ↦ w.cells-is ∙ ap (set c.loop-cell.cells c.loop-cell.cell-index) (sym (cut_clears c.args.a x w.if-cell-a.true))
      | else-cell-a w ↦ w.cells-is ∙ ap (set c.loop-cell.cells c.loop-cell.cell-index) (sym (cut_keeps c.args.a x w.if-cell-a.false))
    ])
