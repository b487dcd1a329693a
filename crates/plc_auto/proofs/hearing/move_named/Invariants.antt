use Rattle.std.proofs.Common.{◌≡◌, ◌++◌, take, drop, map}
use Rattle.plc_auto.specs.Moves.{named_after}
use Rattle.plc_auto.proofs.hearing.move_named.Given as goal

abbrev pub invariant-loop-row : goal.invariant-loop-row
invariant-loop-row l = l.rows ≡ map (named_after l.e l.watchers) (take l.row-index l.fn.rows) ++ drop l.row-index l.fn.rows
