-- The status and the text that are due for words and files.
use Rattle.std.specs.Prelude.{◌≡◌, ◌≢◌, ◌⊎◌, ◌<◌, ℕ, List, [], length, Option, Some, None, slice_get}
use Rattle.plc_base.specs.FileSizes.{largest_file, largest_schedule, largest_certificate}
use Rattle.plc_outside.specs.Known.{KnownFiles, KnownSink}
use Rattle.plc_outside.specs.Outside.{Rose, Appends, AppendsPart}
use Rattle.plc_check.specs.declared.judged.Judged.{Judged}
use Rattle.plc_check.specs.Answered.{judged_of}
use Rattle.plc_flow.specs.WellFormed.{FlowFits}
use Rattle.plc_sched.specs.declared.schedule.Schedule.{Schedule}
use Rattle.plc_sched.specs.declared.fault.SchedFault.{SchedFault}
use Rattle.plc_sched.specs.declared.fault.SchedFault.TheVariants as sched
use Rattle.plc_sched.specs.Schedules.{IsScheduleOf, IsScheduleFault, IsWithinLimits}
use Rattle.plc_reclaim.specs.Meanings.{Meanings}
use Rattle.plc_replay.specs.Outcome.{ComesTo}
use Rattle.plc_answers.specs.Refusals.{words_refused_text}
use Rattle.plc_answers.specs.Replays.{schedule_fault_text, end_text}
use Rattle.plc_cli.specs.Certificates.{IsCertificateOf, IsVerificationOf}
use Rattle.plc_cli.specs.Files.{IsAnsweredFile, IsTold, IsAnswerTo, IsPrintOf}
use Rattle.plc_cli.specs.Reads.{IsDueForFile, IsDueForPair}
use Rattle.plc_cli.specs.Locations.{IsLocationOf}
use Rattle.plc_cli.specs.Requests.{Request, Check, Certify, Print, Verify, Replay, Sample, Suggest, Locate}
use Rattle.plc_cli.specs.Samples.{IsSampleAnswer}
use Rattle.plc_cli.specs.Suggestions.{IsSuggestionOf}
use Rattle.plc_cli.specs.Statuses.{refused, bad_words, unwritten, no_memory, end_status}

-- ---- the answer to the bytes of a file and of a schedule

-- the bytes are no schedule, and this is why
pub record IsRefusedSchedule (bytes : List ℕ) (status : ℕ) (text : List ℕ) : Type 0 where
  pub fault : SchedFault
  pub has : IsScheduleFault bytes fault
  pub told : fault ≢ sched.Memory
  pub status_is : status ≡ refused
  pub text_is : text ≡ schedule_fault_text fault

-- the file has a flow that can be run, and the schedule is within its limits
pub record CanBeReplayed (j : Judged) (schedule : Schedule) : Type 0 where
  pub flow : FlowFits j.flow
  pub schedule_fits : IsWithinLimits schedule

-- what the schedule leads to under a reclaimer
abbrev pub IsEndOf : Judged → Meanings → Schedule → ℕ → List ℕ → Type 0
IsEndOf j reclaimer schedule = IsTold (ComesTo j.flow j.observer reclaimer j.schemes schedule) end_status end_text

-- the bytes spell a schedule, and its end is answered
pub record IsReplayed (j : Judged) (reclaimer : Meanings) (bytes : List ℕ) (status : ℕ) (text : List ℕ) : Type 0 where
  pub schedule : Schedule
  pub spelled : IsScheduleOf bytes schedule
  pub answer : IsEndOf j reclaimer schedule status text

-- what is answered to a schedule for a flow that was loaded: refused or replayed
abbrev pub IsScheduleAnswered : Judged → Meanings → List ℕ → ℕ → List ℕ → Type 0
IsScheduleAnswered j reclaimer bytes status text =
    IsRefusedSchedule bytes status text ⊎ IsReplayed j reclaimer bytes status text

-- what `replay` answers to the bytes of a file and of a schedule; the file's refusals go first
abbrev pub IsReplayOf : Meanings → List ℕ → List ℕ → ℕ → List ℕ → Type 0
IsReplayOf reclaimer bytes second status text =
    IsAnsweredFile (λ u. IsScheduleAnswered (judged_of u) reclaimer second) bytes status text

-- ---- the answer to words

-- the words are of no listed form, and nothing is read
pub record IsWordsRefused (old new : KnownFiles) (status : ℕ) (text : List ℕ) : Type 0 where
  pub untouched : new ≡ old
  pub status_is : status ≡ bad_words
  pub text_is : text ≡ words_refused_text

-- what is due for a replay under the reclaimer of this number
pub record IsDueForReplay
    (reclaimers : List Meanings) (old new : KnownFiles) (file schedule : List ℕ) (number : ℕ) (status : ℕ)
    (text : List ℕ) : Type 0 where
  pub reclaimer : Meanings
  pub there : slice_get reclaimers number ≡ Some reclaimer
  pub due : IsDueForPair old new file schedule largest_schedule
      (λ bytes second. IsReplayOf reclaimer bytes second status text) status text

-- what is due for a sample, which asks for no file
pub record IsDueForSample (old new : KnownFiles) (k n : ℕ) (status : ℕ) (text : List ℕ) : Type 0 where
  pub untouched : new ≡ old
  pub answer : IsSampleAnswer k n status text

-- the status and the text that are due, each with its cause
abbrev pub IsDueFor : List Meanings → Option Request → KnownFiles → KnownFiles → ℕ → List ℕ → Type 0
IsDueFor reclaimers None old new status text = IsWordsRefused old new status text
IsDueFor reclaimers (Some (Check name)) old new status text =
    IsDueForFile old new name (λ bytes. IsAnswerTo bytes status text) status text
IsDueFor reclaimers (Some (Certify name)) old new status text =
    IsDueForFile old new name (λ bytes. IsCertificateOf bytes status text) status text
IsDueFor reclaimers (Some (Print name)) old new status text =
    IsDueForFile old new name (λ bytes. IsPrintOf bytes status text) status text
IsDueFor reclaimers (Some (Verify name certificate)) old new status text =
    IsDueForPair old new name certificate largest_certificate
    (λ bytes second. IsVerificationOf bytes second status text) status text
IsDueFor reclaimers (Some (Replay file schedule number)) old new status text =
    IsDueForReplay reclaimers old new file schedule number status text
IsDueFor reclaimers (Some (Sample k n)) old new status text = IsDueForSample old new k n status text
IsDueFor reclaimers (Some (Suggest name)) old new status text =
    IsDueForFile old new name (λ bytes. IsSuggestionOf bytes status text) status text
IsDueFor reclaimers (Some (Locate name claims)) old new status text =
    IsDueForPair old new name claims largest_file (λ bytes second. IsLocationOf bytes second status text) status text

-- the sink took a part of the text alone: its count rose or can't rise, and its room was less than the text and is
-- used up
pub record IsUnwritten (text : List ℕ) (old new : KnownSink) : Type 0 where
  pub part : AppendsPart old new text
  pub rose : Rose old.faults new.faults
  pub room : old.room < length text
  pub full : new.room ≡ 0

-- what was written for a due status: the whole text, or a part of it and the cause
pub record Ends (status : ℕ) (text : List ℕ) (old new : KnownSink) (result : ℕ) : Type 0 where
  pub only : (result ≡ status) ⊎ ((result ≡ unwritten) ⊎ (result ≡ no_memory))
  pub whole : result ≡ status → Appends old new text
  pub failed : result ≡ unwritten → IsUnwritten text old new
  pub memory : result ≡ no_memory → AppendsPart old new text

-- the due text was written as far as it went
pub record IsWritten
    (reclaimers : List Meanings) (request : Option Request) (old new : KnownFiles) (sink sink_now : KnownSink)
    (result : ℕ) : Type 0 where
  pub status : ℕ
  pub text : List ℕ
  pub due : IsDueFor reclaimers request old new status text
  pub ends : Ends status text sink sink_now result

-- memory ran out before a text was made, or the due text was written as far as it went
abbrev pub Outcome : List Meanings → Option Request → KnownFiles → KnownFiles → KnownSink → KnownSink → ℕ → Type 0
Outcome reclaimers request old new sink sink_now result =
    ((result ≡ no_memory) × Appends sink sink_now [])
    ⊎ IsWritten reclaimers request old new sink sink_now result
