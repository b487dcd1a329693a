-- What a replay leads to under a reclaimer that serves the file: never to a free that the observer forbids.
use Rattle.std.specs.Prelude.{◌≡◌, ℕ, List, [], ◌∷◌, Option, Some, slice_get}
use Rattle.plc_outside.specs.Known.{KnownFiles, KnownSink}
use Rattle.plc_outside.specs.Outside.{Appends}
use Rattle.plc_parse.specs.declared.unit.Unit.{Unit as FileUnit}
use Rattle.plc_check.specs.Loading.{IsFileOf}
use Rattle.plc_check.specs.Answered.{judged_of}
use Rattle.plc_sched.specs.declared.schedule.Schedule.{Schedule}
use Rattle.plc_sched.specs.Schedules.{IsScheduleOf}
use Rattle.plc_reclaim.specs.Meanings.{Meanings}
use Rattle.plc_replay.specs.declared.end.End.{End}
use Rattle.plc_replay.specs.Outcome.{ComesTo}
use Rattle.plc_replay.specs.Laws.{Serves, IsAllowedEnd}
use Rattle.plc_answers.specs.Replays.{end_text}
use Rattle.plc_cli.specs.Reads.{Gave, reading}
use Rattle.plc_cli.specs.Requests.{Request, Replay}
use Rattle.plc_cli.specs.Statuses.{fails, end_status}

-- the bytes spell a file, and this reclaimer acts as one that serves its observer
pub record IsServedBy (reclaimer : Meanings) (bytes : List ℕ) : Type 0 where
  pub unit : FileUnit
  pub spelled : IsFileOf bytes unit
  pub serves : Serves unit.observer reclaimer

-- the bytes spell a schedule, whose end is written; it is a failure, and no forbidden free
pub record FailsOtherwise (unit : FileUnit) (reclaimer : Meanings) (bytes : List ℕ) (sink sink_now : KnownSink)
    : Type 0 where
  pub schedule : Schedule
  pub spelled : IsScheduleOf bytes schedule
  pub end : End
  pub comes : ComesTo (judged_of unit).flow unit.observer reclaimer (judged_of unit).schemes schedule end
  pub failed : end_status end ≡ fails
  pub allowed : IsAllowedEnd end
  pub text : Appends sink sink_now (end_text end)

-- where the words ask for a replay under a reclaimer that serves the file, by the bytes that the reads gave, and by
-- the contents where they are told
pub record ServedReplays (reclaimers : List Meanings) (request : Option Request) (old new : KnownFiles)
    (sink sink_now : KnownSink) (result : ℕ) : Type 0 where
  pub read : (file schedule bytes second : List ℕ) (number : ℕ) (reclaimer : Meanings)
      → request ≡ Some (Replay file schedule number) → slice_get reclaimers number ≡ Some reclaimer
      → Gave old new (reading file bytes ∷ reading schedule second ∷ []) → (served : IsServedBy reclaimer bytes)
      → result ≡ fails → FailsOtherwise served.unit reclaimer second sink sink_now
  pub told : (file schedule bytes second : List ℕ) (number : ℕ) (reclaimer : Meanings)
      → request ≡ Some (Replay file schedule number) → slice_get reclaimers number ≡ Some reclaimer
      → old.content file ≡ Some bytes → old.content schedule ≡ Some second → (served : IsServedBy reclaimer bytes)
      → result ≡ fails → FailsOtherwise served.unit reclaimer second sink sink_now
