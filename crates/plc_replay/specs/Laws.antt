-- A schedule comes to one end, which is no forbidden free where the reclaimer serves the file's observer.
use Rattle.std.specs.Prelude.{◌≡◌, ◌⊎◌, ◌<◌, ℕ, true, List, Ok}
use Rattle.plc_auto.specs.declared.observer.Observer.{Observer}
use Rattle.plc_auto.specs.declared.observer.Observer.TheVariants.{Plain, Hazard, Epoch}
use Rattle.plc_auto.specs.Table.{is_well_formed}
use Rattle.plc_flow.specs.declared.flow.Flow.{Flow}
use Rattle.plc_flow.specs.WellFormed.{FlowFits}
use Rattle.plc_flow.specs.WellSorted.{FlowIsWellSorted}
use Rattle.plc_run.specs.Position.{Position, threads_of, IsOfRun, Starts}
use Rattle.plc_auto.specs.declared.scheme.Scheme.{Scheme}
use Rattle.plc_reclaim.specs.Meanings.{Meanings}
use Rattle.plc_reclaim.specs.Rows.{ActsAs, hazard_row, epoch_row}
use Rattle.plc_auto.specs.Schemes.{schemes_of}
use Rattle.plc_sched.specs.declared.schedule.Schedule.{Schedule}
use Rattle.plc_replay.specs.declared.end.End.{End}
use Rattle.plc_replay.specs.declared.end.End.TheVariants.{ForbiddenFree}
use Rattle.plc_replay.specs.Outcome.{ComesTo}
use Rattle.plc_replay.specs.Stands.{StandsAt}

-- whatever the meanings of the reclaimer are
abbrev pub OneEnd : Flow → Observer → Meanings → List Scheme → Schedule → Type 0
OneEnd flow o reclaimer schemes s =
    (e f : End) → ComesTo flow o reclaimer schemes s e → ComesTo flow o reclaimer schemes s f → e ≡ f

-- the reclaimer acts as `hazard` and the file has no `use epoch`, or it acts as `epoch` and the file has no
-- `use hazard`
abbrev pub Serves : Observer → Meanings → Type 0
Serves Plain m = ActsAs hazard_row m ⊎ ActsAs epoch_row m
Serves (Hazard f) m = ActsAs hazard_row m
Serves (Epoch e l) m = ActsAs epoch_row m

-- the flow and the observer are those of a file that was read, the schemes are the file's, and the reclaimer serves it
pub record IsServed (flow : Flow) (o : Observer) (schemes : List Scheme) (m : Meanings) : Type 0 where
  pub sorted : FlowIsWellSorted flow
  pub well_formed : is_well_formed o ≡ true
  pub schemes_are : schemes ≡ schemes_of o
  pub serves : Serves o m

-- the end is no forbidden free
abbrev pub IsAllowedEnd : End → Type 0
IsAllowedEnd end = (a line : ℕ) → end ≡ ForbiddenFree a line → ⊥

-- the schedule comes to no forbidden free
abbrev pub NeverForbidden : Flow → Observer → Meanings → List Scheme → Schedule → Type 0
NeverForbidden flow o m schemes s = (a line : ℕ) → ComesTo flow o m schemes s (ForbiddenFree a line) → ⊥

-- ---- the laws, each for all that it speaks of

-- a schedule comes to one end at most
abbrev pub SchedulesComeToOneEnd : Type 0
SchedulesComeToOneEnd =
    (flow : Flow) (o : Observer) (reclaimer : Meanings) (schemes : List Scheme) (s : Schedule)
    → OneEnd flow o reclaimer schemes s

-- no schedule comes to a forbidden free where the reclaimer serves the file
abbrev pub ServedReplaysForbidNothing : Type 0
ServedReplaysForbidNothing =
    (flow : Flow) (o : Observer) (schemes : List Scheme) (reclaimer : Meanings) (s : Schedule)
    → IsServed flow o schemes reclaimer → NeverForbidden flow o reclaimer schemes s

-- a start is line 1 of a schedule: from what it answers a replay may go on
abbrev pub StartsStand : Type 0
StartsStand =
    (flow : Flow) → FlowFits flow → (o : Observer) (threads : ℕ) (p : Position) → 0 < threads
    → Starts flow threads (Ok p) → IsOfRun flow o p → threads_of p ≡ threads → StandsAt flow o (threads_of p) 1 p
