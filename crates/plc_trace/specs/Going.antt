-- Where a run stands between two lines of its schedule.
use Rattle.std.specs.Prelude.{ℕ, ◌<◌, Option}
use Rattle.plc_flow.specs.WellFormed.{FlowFits}
use Rattle.plc_sched.specs.Schedules.{line_limit}
use Rattle.plc_run.specs.Position.{Position, threads_of}
use Rattle.plc_replay.specs.declared.end.End.{End}
use Rattle.plc_replay.specs.Stands.{StandsAt, StandsAfter}
use Rattle.plc_rows.specs.declared.traced.Traced.{Traced}

-- the run goes on from there, after so many lines
abbrev pub GoesOnFrom : Traced → ℕ → Position → Type 0
GoesOnFrom traced lines p = StandsAt traced.flow.now traced.observer.now (threads_of p) lines p

-- a line more may be taken there
abbrev pub MayTake : Traced → ℕ → Position → Type 0
MayTake traced lines p = FlowFits traced.flow.now × (lines < line_limit) × GoesOnFrom traced lines p

-- the run goes on from there, or an end has come
abbrev pub GoesOn : Traced → ℕ → Option End → Position → Type 0
GoesOn traced lines end p = StandsAfter traced.flow.now traced.observer.now (threads_of p) lines end p
