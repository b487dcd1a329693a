use Rattle.plc_solve.proofs.Answering.{exact_from}
use Rattle.plc_solve.proofs.search.refute.Goals as goal

pub returns-clause-exact : goal.returns-clause-exact
returns-clause-exact c = exact_from c.args.set.now c.in_ok-solve.field-0 c.in_ok-solve.ensures.open c.in_ok-solve.ensures.closed

pub returns-clause-closed : goal.returns-clause-closed
returns-clause-closed c = c.in_ok-solve.ensures.closed
