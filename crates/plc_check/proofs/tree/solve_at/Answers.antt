use Rattle.std.proofs.Common.{[], ◌∷◌, subst}
use Rattle.plc_ground.specs.declared.terms.GroundSet.{GroundSet}
use Rattle.plc_ground.specs.Trees.{Closes, SplitsOnce}
use Rattle.plc_solve.specs.Answers.{CarriesTree}
use Rattle.plc_check.proofs.Readable.{nodes_fit}
use Rattle.plc_check.proofs.tree.solve_at.Goals as goal

pub returns-in-Ok-Closed-clause-shown : goal.returns-in-Ok-Closed-clause-shown
returns-in-Ok-Closed-clause-shown c =
    let set = c.in_ok-set.set in
    let nodes = c.in-Ok-Closed.tree.nodes in
    let carried = subst (CarriesTree set) c.in-Ok-Closed.field-0-is c.in-Ok-Closed.ensures.closed in
    record {
      closes = subst (λ (s : GroundSet). Closes s nodes) c.in_ok-set.ensures.set carried.0;
      once = subst (λ (s : GroundSet). SplitsOnce s ([] ∷ []) nodes) c.in_ok-set.ensures.set carried.1;
      fits = nodes_fit set c.in_ok-set.ensures.well ([] ∷ []) nodes carried.0;
    }
