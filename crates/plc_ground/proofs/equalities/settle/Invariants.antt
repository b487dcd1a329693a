use Rattle.plc_ground.specs.Changes.{Settles, to_settle}
use Rattle.plc_ground.proofs.equalities.settle.Given as goal

abbrev pub invariant-clashes : goal.invariant-clashes
invariant-clashes l = Settles l.set.terms l.fn.equal l.equal

abbrev pub decreases-clashes : goal.decreases-clashes
decreases-clashes l = to_settle l.equal
