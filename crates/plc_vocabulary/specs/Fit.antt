-- What calls ask of a flow and an outline: what all have that were read from one file.
use Rattle.plc_lang.specs.Fit.{FileFits}
use Rattle.plc_flow.specs.declared.flow.Flow.{Flow}
use Rattle.plc_flow.specs.WellFormed.{FlowFits}
use Rattle.plc_flow.specs.WellSorted.{FlowIsWellSorted}
use Rattle.plc_logic.specs.declared.clause.Outline.{Outline}
use Rattle.plc_logic.specs.Fit.{OutlineFits}

-- the flow can be run and its things stand where their kinds may stand, and the outline is one of its file
pub record Fits (flow : Flow) (outline : Outline) : Type 0 where
  pub flow_fits : FlowFits flow
  pub file : FileFits flow.file
  pub sorted : FlowIsWellSorted flow
  pub outline_fits : OutlineFits flow.file outline
