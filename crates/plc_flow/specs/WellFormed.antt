-- What every flow that was lowered keeps: later layers ask it of the flows that they are given.
use Rattle.std.specs.Prelude.{◌≡◌, ℕ, ◌+◌, ◌<◌, ◌≤◌, List, [], ◌∷◌, length, slice_get, Some}
use Rattle.plc_base.specs.Limits.{most}
use Rattle.plc_base.specs.declared.ids.PointId.{PointId}
use Rattle.plc_base.specs.declared.limits.What1.TheVariants as limits
use Rattle.plc_lang.specs.declared.syntax.Op.{Op}
use Rattle.plc_lang.specs.Shape.{shape_of, init_shape, PrimitivesIn}
use Rattle.plc_flow.specs.declared.flow.Step.{Step}
use Rattle.plc_flow.specs.declared.flow.Gate.{Gate}
use Rattle.plc_flow.specs.declared.flow.Flow.{Flow}

-- a point of an operation
abbrev pub IsPointOf : Gate → ℕ → Type 0
IsPointOf g p = (g.first ≤ p) × (p < g.after)

-- both ends of a step are points of its operation
abbrev pub StepWithin : Flow → Step → Type 0
StepWithin flow s = (g : Gate) × (slice_get flow.gates s.op.0 ≡ Some g) × IsPointOf g s.from.0 × IsPointOf g s.to.0

-- one gate after the other, from a point on
abbrev pub GatesFrom : ℕ → List Gate → ℕ → Type 0
GatesFrom n [] end = n ≡ end
GatesFrom n (g ∷ gs) end = (g.first ≡ n) × (g.entry.0 ≡ n) × (g.exit.0 ≡ n + 1) × (n + 2 ≤ g.after)
    × GatesFrom g.after gs end

-- the claims that may be put in front of a step: one for each shared pointer and one for each local
abbrev pub most_claims : ℕ
most_claims = most limits.Shared + most limits.Locals

-- the primitives of a step: those of an atomic block, and the claims in front of them
abbrev pub most_step_primitives : ℕ
most_step_primitives = most limits.Prims + most_claims

-- what every flow that was lowered keeps
pub record IsWellFormed (flow : Flow) : Type 0 where
  pub few : flow.points ≤ most limits.Points
  pub gates : length flow.gates ≡ length flow.file.ops
  pub ranges : GatesFrom 0 flow.gates flow.points
  pub steps : (k : ℕ) (s : Step) → slice_get flow.steps k ≡ Some s → StepWithin flow s
  pub few_steps : length flow.steps < 65536
  pub short : (k : ℕ) (s : Step) → slice_get flow.steps k ≡ Some s → length s.prims ≤ most_step_primitives
  pub labels : (k : ℕ) (p : PointId) → slice_get flow.labels k ≡ Some p → p.0 < flow.points

-- the flow can be run: it is well formed, and its primitives name what is there
pub record FlowFits (flow : Flow) : Type 0 where
  pub well : IsWellFormed flow
  pub init : PrimitivesIn (init_shape flow.file) flow.file.init
  pub short_init : length flow.file.init ≤ most limits.Prims
  pub steps : (k : ℕ) (s : Step) (o : Op) → slice_get flow.steps k ≡ Some s
      → slice_get flow.file.ops s.op.0 ≡ Some o
      → PrimitivesIn (shape_of flow.file o) s.prims
