use Rattle.std.proofs.Common.{ℕ, ◌<◌, drop}
use Rattle.plc_flow.specs.Skeleton.{skeleton_of}
use Rattle.plc_verify.specs.Environments.{PointHolds, completed}
use Rattle.plc_verify.proofs.Points.{begins}
use Rattle.plc_verify.proofs.environments.first_bad_point.Given as goal

abbrev pub invariant-loop-k : goal.invariant-loop-k
invariant-loop-k l = (q : ℕ) → q < begins (drop l.k l.flow.gates) l.flow.points → PointHolds l.observer (skeleton_of l.flow) (completed l.flow l.envs) q
