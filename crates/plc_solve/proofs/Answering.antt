-- Open comes exactly where a model exists.
use Rattle.std.proofs.Common.{◌↔◌}
use Rattle.plc_ground.specs.declared.terms.GroundSet.{GroundSet}
use Rattle.plc_ground.specs.Trees.{HasModel}
use Rattle.plc_ground.proofs.Refuting.{closed_has_no_model}
use Rattle.plc_solve.specs.declared.search.Answer.{Answer}
use Rattle.plc_solve.specs.declared.search.Answer.TheVariants.{Closed, Open}
use Rattle.plc_solve.specs.Answers.{IsOpen, CarriesModel, CarriesTree}

pub exact_from : (s : GroundSet) (a : Answer) → CarriesModel s a → CarriesTree s a → IsOpen a ↔ HasModel s
exact_from s (Open model) h k = ((λ _. (model.class, h)), λ _. tt)
exact_from s (Closed tree) h k = ((λ o. absurd o), λ m. absurd (closed_has_no_model s tree.nodes (k.0) m))
