-- What is answered: a schedule that replays to a race, or a run that races.
use Rattle.std.specs.Prelude.{◌≡◌, ◌⊎◌, ℕ, false, List}
use Rattle.plc_moves.specs.declared.words.Move.{Move}
use Rattle.plc_mem.specs.declared.cell.RaceKind.{RaceKind}
use Rattle.plc_explore.specs.Racing.{IsRacingRun}
use Rattle.plc_reclaim.specs.Meanings.{Meanings}
use Rattle.plc_sched.specs.declared.schedule.Schedule.{Schedule}
use Rattle.plc_sched.specs.Schedules.{IsScheduleOf}
use Rattle.plc_replay.specs.declared.end.End.TheVariants as ends
use Rattle.plc_replay.specs.Outcome.{ComesTo}
use Rattle.plc_check.specs.declared.judged.Judged.{Judged}
use Rattle.plc_check.specs.Answered.{judged_of}
use Rattle.plc_cli.specs.Files.{IsAnsweredFile}
use Rattle.plc_cli.specs.Statuses.{holds, fails}
use Rattle.plc_hunting.specs.Texts.{none_met, run_text}

-- ---- under a reclaimer

-- the bytes spell a schedule that comes to a race under the reclaimer
pub record IsRacingSchedule (j : Judged) (reclaimer : Meanings) (bytes : List ℕ) : Type 0 where
  pub schedule : Schedule
  pub spelled : IsScheduleOf bytes schedule
  pub kind : RaceKind
  pub line : ℕ
  pub prim : ℕ
  pub comes : ComesTo j.flow j.observer reclaimer j.schemes schedule (ends.Race kind line prim)

-- a race was found, or none was met
abbrev pub IsHuntedBy : Meanings → Judged → ℕ → List ℕ → Type 0
IsHuntedBy reclaimer j status text =
    ((status ≡ holds) × IsRacingSchedule j reclaimer text) ⊎ ((status ≡ fails) × (text ≡ none_met))

-- what is answered to the bytes of a file under a reclaimer
abbrev pub IsHuntUnder : Meanings → List ℕ → ℕ → List ℕ → Type 0
IsHuntUnder reclaimer bytes status text = IsAnsweredFile (λ u. IsHuntedBy reclaimer (judged_of u)) bytes status text

-- ---- where any free may come that the observer allows

-- the text is that of a run which races, each of its frees with its address
pub record TellsRacingRun (j : Judged) (text : List ℕ) : Type 0 where
  pub threads : ℕ
  pub moves : List Move
  pub written : text ≡ run_text j.flow false threads moves
  pub races : IsRacingRun j.flow j.observer threads moves

-- a race was found, or none was met
abbrev pub IsHuntedFreely : Judged → ℕ → List ℕ → Type 0
IsHuntedFreely j status text = ((status ≡ holds) × TellsRacingRun j text) ⊎ ((status ≡ fails) × (text ≡ none_met))

-- what is answered to the bytes of a file where any allowed free may come
abbrev pub IsFreeHunt : List ℕ → ℕ → List ℕ → Type 0
IsFreeHunt bytes status text = IsAnsweredFile (λ u. IsHuntedFreely (judged_of u)) bytes status text
