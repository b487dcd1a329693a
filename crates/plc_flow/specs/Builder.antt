-- What a call of the lowering adds to what was made before it.
use Rattle.std.specs.Prelude.{◌≡◌, ℕ, ◌+◌, ◌<◌, ◌≤◌, List}
use Rattle.std.specs.Prelude.{[], ◌∷◌, ◌++◌, Option, Result, Ok, Err}
use Rattle.plc_base.specs.declared.ids.PointId.{PointId}
use Rattle.plc_lang.specs.declared.syntax.Primitive.{Primitive}
use Rattle.plc_lang.specs.declared.syntax.File.{File}
use Rattle.plc_flow.specs.declared.flow.Gate.{Gate}
use Rattle.plc_flow.specs.declared.flow.Flow.{Flow}
use Rattle.plc_flow.specs.declared.flow.FlowFault.{FlowFault}
use Rattle.plc_flow.specs.declared.flow.FlowFault.TheVariants as faults
use Rattle.plc_flow.specs.declared.builder.Builder.{Builder}
use Rattle.plc_flow.specs.declared.builder.Here.{Here}
use Rattle.plc_flow.specs.Lowering.{Made, MadeOps, Branches, from_to, joins, during_made, most_points}

-- one point, from which it goes on
abbrev pub a_point : ℕ → Made
a_point n = record { points = 1; steps = []; labels = []; last = n }

-- one step, which goes on from its last point
abbrev pub a_step : Here → ℕ → ℕ → List Primitive → Made
a_step h a b prims = record { points = 0; steps = from_to h a b prims ∷ []; labels = []; last = b }

-- the label that a call may have between its steps
abbrev pub a_during : Option ℕ → ℕ → Made
a_during during m = record { points = 0; steps = []; labels = during_made during m; last = m }

-- a step from each end to the point where they join
abbrev pub a_join : Here → List PointId → ℕ → Made
a_join h ends j = record { points = 0; steps = joins h ends j; labels = []; last = j }

-- what was made before, and this after it
pub record Grown (old new : Builder) (m : Made) : Type 0 where
  pub points : new.points ≡ old.points + m.points
  pub few : new.points ≤ most_points
  pub steps : new.steps ≡ old.steps ++ m.steps
  pub labels : new.labels ≡ old.labels ++ m.labels

-- exactly where there would be too many points
abbrev pub Passes : Builder → ℕ → ℕ → Type 0
Passes old points count = (count ≡ most_points + 1) × (most_points < old.points + points)

-- it grows by what is made, and the answer is the point that it goes on from
abbrev pub Makes : Builder → Builder → Result PointId FlowFault → Made → Type 0
Makes old new (Ok last) m = Grown old new m × (last.0 ≡ m.last)
Makes old new (Err (faults.TooManyPoints count)) m = Passes old m.points count
Makes old new (Err faults.Memory) m = Unit {0}

-- the points, steps and labels of blocks side by side, which go on from no one point
abbrev pub without_ends : Branches → Made
without_ends m = record { points = m.points; steps = m.steps; labels = m.labels; last = 0 }

-- the points, steps and labels of all operations
abbrev pub without_gates : MadeOps → Made
without_gates m = record { points = m.points; steps = m.steps; labels = m.labels; last = 0 }

-- blocks side by side are made, with their ends as the answer
abbrev pub MakesBranches : Builder → Builder → Result (List PointId) FlowFault → Branches → Type 0
MakesBranches old new (Ok ends) m = Grown old new (without_ends m) × (ends ≡ m.ends)
MakesBranches old new (Err (faults.TooManyPoints count)) m = Passes old m.points count
MakesBranches old new (Err faults.Memory) m = Unit {0}

-- all operations are made, with their gates as the answer
abbrev pub MakesGates : Builder → Builder → Result (List Gate) FlowFault → MadeOps → Type 0
MakesGates old new (Ok gates) m = Grown old new (without_gates m) × (gates ≡ m.gates)
MakesGates old new (Err (faults.TooManyPoints count)) m = Passes old m.points count
MakesGates old new (Err faults.Memory) m = Unit {0}

-- the file with all that was made of it, or the fault that ended the making
abbrev pub finished : File → Result (List Gate) FlowFault → Builder → Result Flow FlowFault
finished file (Ok gates) out =
    Ok (record { file = file; gates = gates; steps = out.steps; points = out.points; labels = out.labels })
finished file (Err fault) out = Err fault
