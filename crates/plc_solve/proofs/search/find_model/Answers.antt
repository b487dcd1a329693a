use Rattle.plc_ground.proofs.Refuting.{closed_has_no_model}
use Rattle.plc_solve.proofs.search.find_model.Goals as goal

pub returns-in-Closed-clause-none : goal.returns-in-Closed-clause-none
returns-in-Closed-clause-none c = λ _ m.
    closed_has_no_model c.args.set.now c.in-Closed._tree.nodes ((rw c.in-Closed.is at c.in_ok-model.ensures.closed).0) m
