-- What a loop has made so far, by what is left to make.
use Rattle.std.proofs.Common.{◌≡◌, ◌+◌, ◌≤◌, ◌++◌, List}
use Rattle.plc_base.specs.declared.ids.PointId.{PointId}
use Rattle.plc_flow.specs.declared.builder.Builder.{Builder}
use Rattle.plc_flow.specs.declared.flow.Gate.{Gate}
use Rattle.plc_flow.specs.Lowering.{Made, Branches, MadeOps, most_points}
use Rattle.plc_flow.specs.Builder.{without_ends, without_gates}

-- the whole is what the builder has and what is left
pub record Left (old new : Builder) (whole left : Made) : Type 0 where
  pub points : old.points + whole.points ≡ new.points + left.points
  pub few : new.points ≤ most_points
  pub steps : old.steps ++ whole.steps ≡ new.steps ++ left.steps
  pub labels : old.labels ++ whole.labels ≡ new.labels ++ left.labels
  pub last : whole.last ≡ left.last

-- the same of blocks side by side, with the ends so far
abbrev pub LeftBranches : Builder → Builder → List PointId → Branches → Branches → Type 0
LeftBranches old new so_far whole left = Left old new (without_ends whole) (without_ends left) × (whole.ends ≡ so_far ++ left.ends)

-- the same of operations, with the gates so far
abbrev pub LeftOps : Builder → Builder → List Gate → MadeOps → MadeOps → Type 0
LeftOps old new so_far whole left = Left old new (without_gates whole) (without_gates left) × (whole.gates ≡ so_far ++ left.gates)
