use Rattle.plc_solve.specs.Search.{Explains}
use Rattle.plc_solve.proofs.chain.walk_back.Given as goal

abbrev pub invariant-loop : goal.invariant-loop
invariant-loop l = Explains l.set l.branch l.at l.pair.b l.way.items
