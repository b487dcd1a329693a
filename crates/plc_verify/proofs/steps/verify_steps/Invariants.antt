use Rattle.std.proofs.Common.{ℕ, ◌<◌}
use Rattle.plc_flow.specs.Skeleton.{skeleton_of}
use Rattle.plc_verify.specs.Environments.{StepHolds}
use Rattle.plc_verify.specs.Candidate.{whole}
use Rattle.plc_verify.proofs.steps.verify_steps.Given as goal

abbrev pub invariant-loop-k : goal.invariant-loop-k
invariant-loop-k l = (j : ℕ) → j < l.k → StepHolds l.candidate.observer.now (skeleton_of l.candidate.flow.now) (whole l.candidate) j
