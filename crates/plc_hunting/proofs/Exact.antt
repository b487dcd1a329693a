-- A schedule that comes to a race is spelled and comes to it alone, so what is answered is exact.
use Rattle.std.proofs.Common.{ℕ, List, IsTrue, ap, subst}
use Rattle.plc_reclaim.specs.Meanings.{Meanings}
use Rattle.plc_sched.specs.declared.schedule.Schedule.{Schedule}
use Rattle.plc_sched.specs.Schedules.{IsScheduleOf}
use Rattle.plc_sched.proofs.Unique.{schedules_are_one}
use Rattle.plc_replay.specs.declared.end.End.{End}
use Rattle.plc_replay.specs.declared.end.End.TheVariants.{Race}
use Rattle.plc_replay.specs.Outcome.{ComesTo}
use Rattle.plc_replay.specs.Laws.{SchedulesComeToOneEnd}
use Rattle.plc_check.specs.declared.judged.Judged.{Judged}
use Rattle.plc_hunting.specs.Ends.{is_race}
use Rattle.plc_hunting.specs.Racing.{IsRacingSchedule}

-- where there is such a schedule, each end is a race
pub shown : SchedulesComeToOneEnd → (j : Judged) (reclaimer : Meanings) (bytes : List ℕ) (s : Schedule) (end : End) → IsScheduleOf bytes s → ComesTo j.flow j.observer reclaimer j.schemes s end → IsRacingSchedule j reclaimer bytes → IsTrue (is_race end)
shown one_end j reclaimer bytes s end spelled comes r =
    let same = schedules_are_one bytes r.schedule s r.spelled spelled in
    let again = subst (λ (t : Schedule). ComesTo j.flow j.observer reclaimer j.schemes t (Race r.kind r.line r.prim)) same r.comes in
    ap is_race (one_end j.flow j.observer reclaimer j.schemes s end (Race r.kind r.line r.prim) comes again)
