-- What is said of environments, with types of shared pointers, by the candidate that has them with their flow and
-- observer.
use Rattle.std.specs.Prelude.{ℕ, List}
use Rattle.plc_lang.specs.Fit.{FileFits}
use Rattle.plc_type.specs.declared.env.Env.{Env}
use Rattle.plc_flow.specs.WellFormed.{IsWellFormed}
use Rattle.plc_flow.specs.Skeleton.{skeleton_of}
use Rattle.plc_verify.specs.declared.fault.VerifyFault.{VerifyFault}
use Rattle.plc_verify.specs.declared.steps.Candidate.{Candidate}
use Rattle.plc_verify.specs.Environments.{completed, EntriesHold, StepHolds}
use Rattle.plc_verify.specs.Tests.{MayFail}

-- the environments with types of shared pointers
abbrev pub whole : Candidate → List Env
whole c = completed c.flow.now c.envs.now

-- the steps can be judged: the flow is within its limits, and its points and entries have what they have to have
pub record CanTakeSteps (c : Candidate) : Type 0 where
  pub flow : IsWellFormed c.flow.now
  pub file : FileFits c.flow.now.file
  pub entries : EntriesHold c.observer.now (skeleton_of c.flow.now) (whole c)

-- the step with this number holds
abbrev pub StepHoldsOf : Candidate → ℕ → Type 0
StepHoldsOf c k = StepHolds c.observer.now (skeleton_of c.flow.now) (whole c) k

-- an item that fails, or memory that runs out
abbrev pub MayFailOf : Candidate → VerifyFault → Type 0
MayFailOf c fault = MayFail c.observer.now (skeleton_of c.flow.now) (whole c) fault
