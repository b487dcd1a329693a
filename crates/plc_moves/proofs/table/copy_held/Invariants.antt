use Rattle.std.proofs.Common.{◌≡◌, take}
use Rattle.plc_moves.proofs.table.copy_held.Given as goal

abbrev pub invariant-loop-held : goal.invariant-loop-held
invariant-loop-held g l = l.copy.items ≡ take l.held-index l.table
