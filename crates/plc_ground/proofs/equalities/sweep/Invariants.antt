use Rattle.plc_ground.proofs.Changing.{Sweeps}
use Rattle.plc_ground.proofs.equalities.sweep.Given as goal

abbrev pub invariant-loop-list : goal.invariant-loop-list
invariant-loop-list l = Sweeps l.set.terms l.table.lists l.x l.list-index l.fn.equal l.equal l.found
