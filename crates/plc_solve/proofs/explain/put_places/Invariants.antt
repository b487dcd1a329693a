use Rattle.plc_solve.specs.Search.{PutsSome}
use Rattle.plc_solve.proofs.explain.put_places.Given as goal

abbrev pub invariant-loop-place : goal.invariant-loop-place
invariant-loop-place l = PutsSome l.set l.branch l.core.items l.equal.class
