-- What every file keeps that bytes spell.
use Rattle.std.specs.Prelude.{ℕ, List}
use Rattle.plc_vocabulary.specs.Fit.{Fits}
use Rattle.plc_oblig.specs.Outlines.{HasFewObligations, HasSmallSets}
use Rattle.plc_parse.specs.declared.unit.Unit.{Unit as FileUnit}
use Rattle.plc_parse.specs.Fit.{ObserverFits}
use Rattle.plc_check.specs.declared.judged.Judged.{Judged}
use Rattle.plc_check.specs.Loading.{IsFileOf}
use Rattle.plc_check.specs.Answered.{judged_of}

-- the flow can be run and each thing stands in it where its kind may stand, so it is with the observer and the outline,
-- and the outline is within its limits
pub record JudgedFits (j : Judged) : Type 0 where
  pub fits : Fits j.flow j.unit_outline
  pub observer : ObserverFits j.flow.file j.observer
  pub few : HasFewObligations j.flow j.unit_outline
  pub small : HasSmallSets j.flow j.unit_outline

-- whatever unit bytes spell, what is judged of it fits
abbrev pub FilesFit : Type 0
FilesFit = (bytes : List ℕ) (u : FileUnit) → IsFileOf bytes u → JudgedFits (judged_of u)
