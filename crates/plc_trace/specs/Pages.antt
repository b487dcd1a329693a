-- What a page of a run says of a file and a schedule.
use Rattle.std.specs.Prelude.{◌≡◌, ℕ, List}
use Rattle.plc_sched.specs.declared.schedule.Schedule.{Schedule}
use Rattle.plc_reclaim.specs.Meanings.{Meanings}
use Rattle.plc_check.specs.declared.judged.Judged.{Judged}
use Rattle.plc_sched.specs.declared.fault.SchedFault.{SchedFault}
use Rattle.plc_answers.specs.Replays.{schedule_fault_text}
use Rattle.plc_cli.specs.Statuses.{refused}
use Rattle.plc_cli.specs.Answer.{IsReplayOf, IsScheduleAnswered, IsEndOf}
use Rattle.plc_page.specs.declared.page.Page.{Page}
use Rattle.plc_page.specs.Pages.{ShowsAnswer}

-- the page shows, by its status and its text, an answer that is due
pub record ShowsDue (title : List ℕ) (IsDue : ℕ → List ℕ → Type 0) (page : Page) : Type 0 where
  pub status : ℕ
  pub text : List ℕ
  pub due : IsDue status text
  pub shows : ShowsAnswer title status text page

-- the page shows what `replay` answers to the bytes of a file and of a schedule, under a reclaimer with these meanings
abbrev pub ShowsReplay : List ℕ → Meanings → List ℕ → List ℕ → Page → Type 0
ShowsReplay title reclaimer bytes second = ShowsDue title (IsReplayOf reclaimer bytes second)

-- the page shows what is answered to the bytes of a schedule for a flow that was loaded
abbrev pub ShowsSchedule : List ℕ → Judged → Meanings → List ℕ → Page → Type 0
ShowsSchedule title j reclaimer second = ShowsDue title (IsScheduleAnswered j reclaimer second)

-- the page shows the end of a schedule
abbrev pub ShowsEnd : List ℕ → Judged → Meanings → Schedule → Page → Type 0
ShowsEnd title j reclaimer schedule = ShowsDue title (IsEndOf j reclaimer schedule)

-- the page says why the bytes are no schedule
abbrev pub SaysUnscheduled : List ℕ → SchedFault → Page → Type 0
SaysUnscheduled title fault page = ShowsAnswer title refused (schedule_fault_text fault) page
