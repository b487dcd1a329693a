use Rattle.std.proofs.Common.{arith, below_more}
use Rattle.plc_flow.specs.Skeleton.{skeleton_of}
use Rattle.plc_verify.specs.Environments.{StepHolds}
use Rattle.plc_verify.specs.Candidate.{whole}
use Rattle.plc_verify.proofs.steps.verify_steps.Goals as goal

pub loop-k-preserved : goal.loop-k-preserved
loop-k-preserved c = below_more (StepHolds c.args.candidate.now.observer.now (skeleton_of c.args.candidate.now.flow.now) (whole c.args.candidate.now)) c.loop-k.k c.loop-k.invariant c.in_ok-verify_step.ensures

pub returns : goal.returns
returns c = λ k small. c.loop-k.invariant k (omega (arith, c.loop-k-test.false, c.len-k-end.ensures))
