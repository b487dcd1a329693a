use Rattle.std.proofs.Common.{◌≡◌, take, map}
use Rattle.plc_auto.specs.Moves.{all_elsewhere}
use Rattle.plc_auto.proofs.hearing.move_own.Given as goal

abbrev pub invariant-loop-i : goal.invariant-loop-i
invariant-loop-i l = l.rows ≡ map (all_elsewhere l.e (take l.i l.watchers)) l.fn.rows
