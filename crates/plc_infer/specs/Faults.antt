-- The first condition that fails, as it is looked for: primitive by primitive, and step by step.
use Rattle.std.specs.Prelude.{◌≡◌, ◌<◌, ℕ, List, Option, None, Some, length}
use Rattle.plc_base.specs.declared.ids.StepId.{StepId}
use Rattle.plc_lang.specs.declared.syntax.Primitive.{Primitive}
use Rattle.plc_auto.specs.declared.observer.Observer.{Observer}
use Rattle.plc_type.specs.declared.env.Env.{Env}
use Rattle.plc_xfer.specs.declared.fault.TypeFault.{TypeFault}
use Rattle.plc_xfer.specs.Typings.{env_at, fault_at}
use Rattle.plc_infer.specs.declared.program.Program.{Program}
use Rattle.plc_infer.specs.Programs.{program_of, passage_at}
use Rattle.plc_infer.specs.Graphs.{graph_of}
use Rattle.plc_infer.specs.Iteration.{HoldBelow, IsFirstFailing}

-- no condition of the first n primitives fails as they run from an environment
abbrev pub NoneFailsBelow : Observer → Env → List Primitive → ℕ → Type 0
NoneFailsBelow o e prims n = (i : ℕ) → i < n → fault_at o e prims i ≡ None

-- no condition of primitives fails, or this is the first that does
abbrev pub IsFirstFaultOfStep : Observer → Env → List Primitive → Option (ℕ × TypeFault) → Type 0
IsFirstFaultOfStep o e prims None = NoneFailsBelow o e prims (length prims)
IsFirstFaultOfStep o e prims (Some at) =
    (at.0 < length prims) × (fault_at o e prims at.0 ≡ Some at.1) × NoneFailsBelow o e prims at.0

-- no condition of a program's steps fails, or this is the first that does
abbrev pub IsFirstFault : Observer → Program → List Env → Option (StepId × ℕ × TypeFault) → Type 0
IsFirstFault o p envs None = HoldBelow (graph_of o (program_of p)) envs (length p.steps.now)
IsFirstFault o p envs (Some at) =
    IsFirstFailing (graph_of o (program_of p)) envs at.0.0 at.1
    × (let x = passage_at (program_of p) at.0.0 in fault_at o (env_at envs x.from) x.prims at.1 ≡ Some at.2)
