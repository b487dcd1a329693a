use Rattle.std.proofs.Common.{◌≡◌, ◌++◌, take, drop, map}
use Rattle.plc_auto.specs.Moves.{one_elsewhere}
use Rattle.plc_auto.proofs.hearing.move_one.Given as goal

abbrev pub invariant-loop-row : goal.invariant-loop-row
invariant-loop-row l = l.rows ≡ map (one_elsewhere l.observer l.kind l.named l.i) (take l.row-index l.fn.rows) ++ drop l.row-index l.fn.rows
