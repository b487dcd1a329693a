-- The first that is handed out of the obligations that aren't kept is the least of them.
use Rattle.std.proofs.Common.{◌≡◌, List, ◌∷◌, ◌++◌, sym, ap, ◌∙◌, subst}
use Rattle.plc_flow.specs.declared.flow.Flow.{Flow}
use Rattle.plc_logic.specs.declared.clause.Outline.{Outline}
use Rattle.plc_ground.specs.declared.terms.GroundSet.{GroundSet}
use Rattle.plc_ground.specs.Model.{IsModel}
use Rattle.plc_ground.specs.Trees.{HasModel}
use Rattle.plc_vocabulary.specs.declared.obligations.Obligation.{Obligation}
use Rattle.plc_oblig.specs.Obligations.{obligations}
use Rattle.plc_oblig.specs.GroundSets.{ground_set}
use Rattle.plc_oblig.specs.Outlines.{IsKept, IsLeastOpen}
use Rattle.plc_check.specs.declared.counterexample.Counterexample.{Counterexample}
use Rattle.plc_check.specs.Open.{IsCounterexample}
use Rattle.plc_check.proofs.SoFar.{SoFar}

pub least_open : (flow : Flow) (outline : Outline) (left new : List Obligation) (o : Obligation)
    → SoFar (IsKept flow outline) (obligations flow outline) left → left ≡ o ∷ new
    → HasModel (ground_set flow outline o) → IsLeastOpen flow outline o
least_open flow outline left new o s e has = record {
  before = s.before;
  after = new;
  listed = s.listed ∙ ap (λ (os : List Obligation). s.before ++ os) e;
  kept = s.kept;
  has_model = has;
}

-- what breaks the one that is handed out breaks the least that isn't kept
pub least_broken : (flow : Flow) (outline : Outline) (left new : List Obligation) (o : Obligation) (x : Counterexample)
    → SoFar (IsKept flow outline) (obligations flow outline) left → left ≡ o ∷ new
    → (x.obligation ≡ o) × IsCounterexample flow outline x
    → IsLeastOpen flow outline x.obligation × IsCounterexample flow outline x
least_broken flow outline left new o x s e h = (
  least_open flow outline left new x.obligation s (e ∙ ap (λ (p : Obligation). p ∷ new) (sym h.0))
      (x.model.class, subst (λ (set : GroundSet). IsModel set x.model.class) h.1.set_is h.1.model),
  h.1,
)
