use Rattle.std.proofs.Common.{◌≡◌, take}
use Rattle.plc_auto.specs.Moves.{with_all}
use Rattle.plc_auto.proofs.row.Row.move_all.Given as goal

abbrev pub invariant-loop-i : goal.invariant-loop-i
invariant-loop-i l = l.self ≡ with_all l.e l.on_this (take l.i l.watchers) l.fn.self
