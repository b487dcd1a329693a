-- When an outline holds, and how large it may be.
use Rattle.std.specs.Prelude.{◌≡◌, ◌<◌, ◌≤◌, Bool, nat_lt, List, ◌∷◌, ◌++◌, length, All, Any}
use Rattle.plc_base.specs.Limits.{most}
use Rattle.plc_base.specs.declared.limits.What1.TheVariants as limits
use Rattle.plc_flow.specs.declared.flow.Flow.{Flow}
use Rattle.plc_logic.specs.declared.clause.Outline.{Outline}
use Rattle.plc_ground.specs.Trees.{HasModel}
use Rattle.plc_vocabulary.specs.declared.obligations.Obligation.{Obligation}
use Rattle.plc_oblig.specs.Obligations.{obligations}
use Rattle.plc_oblig.specs.GroundSets.{ground_set}

-- the ground set of an obligation has no model
abbrev pub IsKept : Flow → Outline → Obligation → Type 0
IsKept flow outline o = HasModel (ground_set flow outline o) → ⊥

-- each obligation is kept
abbrev pub OutlineHolds : Flow → Outline → Type 0
OutlineHolds flow outline = All (IsKept flow outline) (obligations flow outline)

-- the least obligation that isn't kept: its ground set has a model, and those before it are kept
pub record IsLeastOpen (flow : Flow) (outline : Outline) (o : Obligation) : Type 0 where
  pub before : List Obligation
  pub after : List Obligation
  pub listed : obligations flow outline ≡ before ++ o ∷ after
  pub kept : All (IsKept flow outline) before
  pub has_model : HasModel (ground_set flow outline o)

-- ---- limits

-- there are no more obligations than there may be
abbrev pub HasFewObligations : Flow → Outline → Type 0
HasFewObligations flow outline = length (obligations flow outline) ≤ most limits.Obligations

-- the ground set of no obligation has more clauses than it may have
abbrev pub HasSmallSets : Flow → Outline → Type 0
HasSmallSets flow outline =
    All (λ o. length (ground_set flow outline o).clauses ≤ most limits.Clauses) (obligations flow outline)

-- that of one has more
abbrev pub HasLargeSet : Flow → Outline → Type 0
HasLargeSet flow outline =
    Any (λ o. most limits.Clauses < length (ground_set flow outline o).clauses) (obligations flow outline)

-- the ground set of the obligation has more, as a test
abbrev pub is_large : Flow → Outline → Obligation → Bool
is_large flow outline o = nat_lt (most limits.Clauses) (length (ground_set flow outline o).clauses)
