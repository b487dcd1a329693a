-- Where a thread may stand, and the steps that leave a point.
use Rattle.std.specs.Prelude.{◌≡◌, ℕ, Bool, true, ◌==◌}
use Rattle.std.specs.Prelude.{List, filter, slice_get, Option, Some, is_some}
use Rattle.std.specs.List.{list_any}
use Rattle.plc_base.specs.Booleans.{same_bool}
use Rattle.plc_lang.specs.Allocation.{is_new}
use Rattle.plc_flow.specs.declared.flow.Step.{Step}
use Rattle.plc_flow.specs.declared.flow.Gate.{Gate}
use Rattle.plc_flow.specs.declared.flow.Flow.{Flow}
use Rattle.plc_flow.specs.WellFormed.{IsPointOf}

-- the step leaves the point
abbrev pub leaves : ℕ → Step → Bool
leaves p s = s.from.0 == p

-- the steps that leave a point, in order
abbrev pub steps_from : Flow → ℕ → List Step
steps_from flow p = filter (leaves p) flow.steps

-- a move that takes a step names an address exactly where the step has a `new`
abbrev pub Names : Option ℕ → Step → Type 0
Names addr s = is_some addr ≡ list_any is_new s.prims

-- `Names` as a test
abbrev pub names_rightly : Option ℕ → Step → Bool
names_rightly addr s = same_bool (is_some addr) (list_any is_new s.prims)

-- a step of the flow, of operation op, that leads to a point of its gate
pub record IsStepOf (flow : Flow) (op : ℕ) (gate : Gate) (s : Step) : Type 0 where
  pub place : ℕ
  pub there : slice_get flow.steps place ≡ Some s
  pub of_op : s.op.0 ≡ op
  pub leads : IsPointOf gate s.to.0

-- a step that leaves a point of an operation is of that operation
abbrev pub StepsStayInTheirGate : Flow → Type 0
StepsStayInTheirGate flow =
    (op : ℕ) (gate : Gate) (p nth : ℕ) (s : Step) → slice_get flow.gates op ≡ Some gate → IsPointOf gate p
    → slice_get (steps_from flow p) nth ≡ Some s → IsStepOf flow op gate s
