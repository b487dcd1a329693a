-- What looking for an operation by its name answers, and what a start and a tick ask for.
use Rattle.std.specs.Prelude.{ℕ, List, Option, Some, None}
use Rattle.plc_base.specs.declared.ids.OpId.{OpId}
use Rattle.plc_flow.specs.declared.flow.Flow.{Flow}
use Rattle.plc_reclaim.specs.Meanings.{Meanings}
use Rattle.plc_sched.specs.declared.schedule.Entry.TheVariants.{Start, Tick}
use Rattle.plc_replay.specs.declared.wanted.Wanted.{Wanted}
use Rattle.plc_replay.specs.Outcome.{IsOperation}
use Rattle.plc_replay.specs.Stands.{Wants}

-- the operation that is called so, if there is one
abbrev pub IsFound : Flow → List ℕ → Option OpId → Type 0
IsFound flow name None = (k : ℕ) → IsOperation flow name k → ⊥
IsFound flow name (Some k) = IsOperation flow name k.0

-- whatever the reclaimer, a start of the operation that is called so asks for this
abbrev pub IsStart : Flow → ℕ → List ℕ → List ℕ → Wanted → Type 0
IsStart flow t op args wanted =
    (reclaimer : Meanings) (held : List ℕ) → Wants flow reclaimer held (Start t op args) wanted

-- whatever the flow, a tick asks for this
abbrev pub IsPick : Meanings → List ℕ → Wanted → Type 0
IsPick reclaimer held wanted = (flow : Flow) → Wants flow reclaimer held Tick wanted
