-- What else every flow keeps that was lowered from a file that was read: each thing stands where its kind may stand,
-- and labels are numbered.
use Rattle.std.specs.Prelude.{◌≡◌, ℕ, length, slice_get, Some}
use Rattle.plc_base.specs.declared.ids.PointId.{PointId}
use Rattle.plc_lang.specs.declared.syntax.File.{File}
use Rattle.plc_lang.specs.Labels.{labels_by_op, op_of_label}
use Rattle.plc_lang.specs.WellSorted.{StepIsWellSorted, FileIsWellSorted}
use Rattle.plc_flow.specs.declared.flow.Step.{Step}
use Rattle.plc_flow.specs.declared.flow.Gate.{Gate}
use Rattle.plc_flow.specs.declared.flow.Flow.{Flow}
use Rattle.plc_flow.specs.Lowering.{flow_of}
use Rattle.plc_flow.specs.WellFormed.{IsPointOf, FlowFits}

-- a point of the operation whose statements have the label
pub record IsPointOfLabel (flow : Flow) (label : ℕ) (p : PointId) : Type 0 where
  pub op : ℕ
  pub gate : Gate
  pub stands : op_of_label (labels_by_op flow.file.ops) label ≡ Some op
  pub opens : slice_get flow.gates op ≡ Some gate
  pub within : IsPointOf gate p.0

-- claims may stand in front of what the text has in a step; the l-th labelled point is one of the operation of label l
pub record FlowIsWellSorted (flow : Flow) : Type 0 where
  pub file : FileIsWellSorted flow.file
  pub steps : (k : ℕ) (s : Step) → slice_get flow.steps k ≡ Some s → StepIsWellSorted flow.file s.prims
  pub labels : length flow.labels ≡ length flow.file.labels
  pub each_label : (l : ℕ) (p : PointId) → slice_get flow.labels l ≡ Some p → IsPointOfLabel flow l p

-- the flow of a file can be run, and each thing stands in it where its kind may stand
pub record FlowOfFits (file : File) : Type 0 where
  pub fits : FlowFits (flow_of file)
  pub sorted : FlowIsWellSorted (flow_of file)
