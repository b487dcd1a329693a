-- All obligations of an outline that aren't kept, up to so many of them.
use Rattle.std.specs.Prelude.{◌≡◌, ◌≤◌, ℕ, List, [], ◌∷◌, ◌++◌, Bool, true, false, length}
use Rattle.plc_flow.specs.declared.flow.Flow.{Flow}
use Rattle.plc_logic.specs.declared.clause.Outline.{Outline}
use Rattle.plc_ground.specs.Model.{IsModel}
use Rattle.plc_vocabulary.specs.declared.obligations.Obligation.{Obligation}
use Rattle.plc_oblig.specs.Obligations.{obligations}
use Rattle.plc_oblig.specs.GroundSets.{ground_set}
use Rattle.plc_oblig.specs.Outlines.{IsKept}
use Rattle.plc_check.specs.declared.counterexample.Counterexample.{Counterexample}
use Rattle.plc_check.specs.declared.open.OpenObligations.{OpenObligations}

-- the set is the obligation's, and the model is one of the set
pub record IsCounterexample (flow : Flow) (outline : Outline) (x : Counterexample) : Type 0 where
  pub set_is : x.set ≡ ground_set flow outline x.obligation
  pub model : IsModel x.set x.model.class

-- what breaks those of these obligations that aren't kept, one for each, in their order; the others are kept
pub data AreOpenOf (flow : Flow) (outline : Outline) : List Obligation → List Counterexample → Type 0 where
  none : AreOpenOf flow outline [] []
  kept : {o : Obligation} {os : List Obligation} {xs : List Counterexample} → IsKept flow outline o
      → AreOpenOf flow outline os xs → AreOpenOf flow outline (o ∷ os) xs
  broken : {os : List Obligation} {x : Counterexample} {xs : List Counterexample} → IsCounterexample flow outline x
      → AreOpenOf flow outline os xs → AreOpenOf flow outline (x.obligation ∷ os) (x ∷ xs)

-- all obligations were looked at, or as many were found as were asked for
abbrev pub EndsBy : Bool → ℕ → List Obligation → List Counterexample → Type 0
EndsBy true most left xs = left ≡ []
EndsBy false most left xs = length xs ≡ most

-- those of the first obligations, up to the last of all or to the last that was asked for
pub record AreOpen (flow : Flow) (outline : Outline) (most : ℕ) (answer : OpenObligations) : Type 0 where
  pub looked : List Obligation
  pub left : List Obligation
  pub listed : obligations flow outline ≡ looked ++ left
  pub found : AreOpenOf flow outline looked answer.found
  pub few : length answer.found ≤ most
  pub ends : EndsBy answer.all most left answer.found
