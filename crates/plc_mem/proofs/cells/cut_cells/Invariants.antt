use Rattle.std.proofs.Common.{◌≡◌, ◌++◌, map, take, drop}
use Rattle.plc_mem.specs.State.{cut}
use Rattle.plc_mem.proofs.cells.cut_cells.Given as goal

abbrev pub invariant-loop-cell : goal.invariant-loop-cell
invariant-loop-cell l = l.cells ≡ map (cut l.a) (take l.cell-index l.fn.cells) ++ drop l.cell-index l.fn.cells
