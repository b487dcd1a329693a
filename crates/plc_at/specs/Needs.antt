-- What the program says of claims on its way to an extended outline, in the words of the definitions.
use Rattle.std.specs.Prelude.{◌≡◌, ℕ, ◌+◌, ◌<◌, List, length, Option, Some, None}
use Rattle.plc_lang.specs.Fit.{FileFits}
use Rattle.plc_flow.specs.declared.flow.Flow.{Flow}
use Rattle.plc_auto.specs.declared.observer.Observer.{Observer}
use Rattle.plc_type.specs.declared.env.Env.{Env}
use Rattle.plc_at.specs.declared.claim.LocationClaim.{LocationClaim}
use Rattle.plc_at.specs.declared.fault.AtFault.{AtFault}
use Rattle.plc_at.specs.declared.fault.AtFault.TheVariants as faults
use Rattle.plc_at.specs.declared.needs.Need.{Need as Answer}
use Rattle.plc_at.specs.declared.needs.Need.TheVariants as answers
use Rattle.plc_at.specs.Claims.{ClaimFits}
use Rattle.plc_at.specs.Reading.{AreOps}
use Rattle.plc_at.specs.Extended.{Need, Nothing, Unretired, RetiredNode, Unlocated}
use Rattle.plc_at.specs.Extended.{added_items, most_items, AreLocated, IsFirstUnlocated}

-- each answer is the need of its name
abbrev pub answered : Answer → Need
answered answers.Nothing = Nothing
answered answers.Unretired = Unretired
answered answers.RetiredNode = RetiredNode
answered answers.Unlocated = Unlocated

-- what a claim needs can be added: its label and its local exist, and the operations of all labels are noted
pub record CanBeAdded (flow : Flow) (by_label : List (Option ℕ)) (c : LocationClaim) : Type 0 where
  pub file : FileFits flow.file
  pub ops : AreOps flow by_label
  pub claim : ClaimFits flow c

-- the least claim that isn't located, or none where each is
abbrev pub IsFirstUnlocatedOrNone : Flow → Observer → List Env → List LocationClaim → Option ℕ → Type 0
IsFirstUnlocatedOrNone flow o typing claims None = AreLocated flow o typing claims
IsFirstUnlocatedOrNone flow o typing claims (Some i) = IsFirstUnlocated flow o typing claims i

-- all claims are located, and after so many items theirs are too many
pub record AddTooMany (flow : Flow) (o : Observer) (typing : List Env) (claims : List LocationClaim) (before : ℕ)
    : Type 0 where
  pub located : AreLocated flow o typing claims
  pub many : most_items < before + length (added_items flow o typing claims)

-- why claims add nothing to so many items; memory may run out
abbrev pub IsRefusal : Flow → Observer → List Env → List LocationClaim → ℕ → AtFault → Type 0
IsRefusal flow o typing claims before (faults.Unlocated i) = IsFirstUnlocated flow o typing claims i
IsRefusal flow o typing claims before (faults.Items n) =
    (n ≡ most_items + 1) × AddTooMany flow o typing claims before
IsRefusal flow o typing claims before faults.Memory = Unit {0}
