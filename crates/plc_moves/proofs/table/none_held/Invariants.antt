use Rattle.std.proofs.Common.{◌≡◌, None, replicate}
use Rattle.plc_moves.proofs.table.none_held.Given as goal

abbrev pub invariant-loop-t : goal.invariant-loop-t
invariant-loop-t g l = l.table.items ≡ replicate l._t None
