-- What is judged with another outline in the place of its own, where that is within the limits of outlines.
use Rattle.std.specs.Prelude.{◌≡◌, ◌⊎◌, ℕ, ◌<◌, ◌+◌, length, Result, Ok, Err}
use Rattle.plc_base.specs.Limits.{most}
use Rattle.plc_base.specs.declared.limits.What1.{What1}
use Rattle.plc_base.specs.declared.limits.What1.TheVariants as limits
use Rattle.plc_logic.specs.declared.clause.Outline.{Outline}
use Rattle.plc_flow.specs.declared.flow.Flow.{Flow}
use Rattle.plc_oblig.specs.Obligations.{obligations}
use Rattle.plc_oblig.specs.Outlines.{HasFewObligations, HasSmallSets, HasLargeSet}
use Rattle.plc_check.specs.declared.judged.Judged.{Judged}
use Rattle.plc_check.specs.declared.outlined.OutlineFault.{OutlineFault}
use Rattle.plc_check.specs.declared.outlined.OutlineFault.TheVariants.{Limit}

-- what is judged, with this outline
abbrev pub outlined : Judged → Outline → Judged
outlined j outline = record {
  unit_outline = outline;
  observer = j.observer;
  schemes = j.schemes;
  flow = j.flow;
}

-- it is the answer, and the outline is within its limits
pub record IsOutlinedAs (j : Judged) (outline : Outline) (k : Judged) : Type 0 where
  pub is : k ≡ outlined j outline
  pub few : HasFewObligations j.flow outline
  pub small : HasSmallSets j.flow outline

-- the outline has more obligations than it may
pub record PassesObligations (flow : Flow) (outline : Outline) (what : What1) (count : ℕ) : Type 0 where
  pub what_is : what ≡ limits.Obligations
  pub many : most limits.Obligations < length (obligations flow outline)
  pub count_is : count ≡ most limits.Obligations + 1

-- it has no more, but the ground set of one has more clauses than it may
pub record PassesClauses (flow : Flow) (outline : Outline) (what : What1) (count : ℕ) : Type 0 where
  pub what_is : what ≡ limits.Clauses
  pub few : HasFewObligations flow outline
  pub large : HasLargeSet flow outline
  pub count_is : count ≡ most limits.Clauses + 1

-- the first limit that an outline passes, with the limit plus one
abbrev pub IsOutlineLimit : Flow → Outline → What1 → ℕ → Type 0
IsOutlineLimit flow outline what count =
    PassesObligations flow outline what count ⊎ PassesClauses flow outline what count

-- the answer to another outline: what is judged with it, or the first limit that it passes
abbrev pub IsOutlined : Judged → Outline → Result Judged OutlineFault → Type 0
IsOutlined j outline (Ok k) = IsOutlinedAs j outline k
IsOutlined j outline (Err (Limit what count)) = IsOutlineLimit j.flow outline what count
