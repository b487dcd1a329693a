-- What `plc-show` does: with any reclaimers, and with those of `plc`.
use Rattle.std.specs.Prelude.{◌≡◌, ◌≤◌, ◌⊎◌, ℕ, Bool, if◌then◌else◌, List, [], Option, Some, None, slice_get, nat_lt}
use Rattle.plc_base.specs.FileSizes.{largest_schedule}
use Rattle.plc_outside.specs.Known.{KnownFiles, KnownSink}
use Rattle.plc_reclaim.specs.Meanings.{Meanings}
use Rattle.plc_cli.specs.Answer.{Ends, IsWordsRefused}
use Rattle.plc_cli.specs.Files.{IsAnswerTo}
use Rattle.plc_cli.specs.Program.{AreOwn, own_names}
use Rattle.plc_cli.specs.Reads.{FilesAreKept, IsDueForFile, IsDueForPair}
use Rattle.plc_cli.specs.Statuses.{no_memory, refused}
use Rattle.plc_page.specs.declared.page.Page.{Page as APage}
use Rattle.plc_page.specs.Pages.{HasCheckStatus, ShowsCheck}
use Rattle.plc_trace.specs.Pages.{ShowsReplay}
use Rattle.plc_view.specs.Requests.{Request, Page, Lines, Run, request_of, title_of}

-- a page, by its status and its bytes
abbrev pub page : ℕ → List ℕ → APage
page status text = record { status = status; bytes = text }

-- what is due for a run under the reclaimer of this number
pub record IsDueForRun (reclaimers : List Meanings) (old new : KnownFiles) (file schedule name : List ℕ) (number : ℕ)
    (status : ℕ) (text : List ℕ) : Type 0 where
  pub reclaimer : Meanings
  pub there : slice_get reclaimers number ≡ Some reclaimer
  pub due : IsDueForPair old new file schedule largest_schedule
      (λ bytes second. ShowsReplay (title_of file schedule name) reclaimer bytes second (page status text)) status text

-- the status and the text that are due, each with its cause
abbrev pub IsDueFor : List Meanings → Option Request → KnownFiles → KnownFiles → ℕ → List ℕ → Type 0
IsDueFor reclaimers None old new status text = IsWordsRefused old new status text
IsDueFor reclaimers (Some (Page name)) old new status text =
    IsDueForFile old new name (λ bytes. ShowsCheck name bytes (page status text)) status text
IsDueFor reclaimers (Some (Lines name)) old new status text =
    IsDueForFile old new name (λ bytes. HasCheckStatus bytes status) status text
IsDueFor reclaimers (Some (Run file schedule name number)) old new status text =
    IsDueForRun reclaimers old new file schedule name number status text

-- ---- the two sinks

-- what is known of the one for answers, and of the one for what keeps from an answer
pub record Outputs : Type 0 where
  pub out : KnownSink
  pub causes : KnownSink

abbrev pub outputs : KnownSink → KnownSink → Outputs
outputs out causes = record { out = out; causes = causes }

-- an answer's status is at most that of a refusal; above it the words are of no listed form, or a file can't be read
abbrev pub keeps_from_answer : ℕ → Bool
keeps_from_answer status = nat_lt refused status

-- the sink to which a text with this status goes, and the other one
abbrev pub taking : ℕ → Outputs → KnownSink
taking status known = if keeps_from_answer status then known.causes else known.out

abbrev pub idle : ℕ → Outputs → KnownSink
idle status known = if keeps_from_answer status then known.out else known.causes

-- a text with its status was written to its sink as far as it went, and nothing to the other
pub record IsPut (status : ℕ) (text : List ℕ) (before now : Outputs) (result : ℕ) : Type 0 where
  pub ends : Ends status text (taking status before) (taking status now) result
  pub other : idle status now ≡ idle status before

-- ---- the program

-- the due text was written
pub record IsShown (reclaimers : List Meanings) (request : Option Request) (old new : KnownFiles)
    (before now : Outputs) (result : ℕ) : Type 0 where
  pub status : ℕ
  pub text : List ℕ
  pub due : IsDueFor reclaimers request old new status text
  pub put : IsPut status text before now result

-- memory ran out before a text was made
pub record IsNotMade (before now : Outputs) (result : ℕ) : Type 0 where
  pub status_is : result ≡ no_memory
  pub unwritten : now ≡ before

-- memory ran out before a text was made, or the due text was written
abbrev pub Outcome : List Meanings → Option Request → KnownFiles → KnownFiles → Outputs → Outputs → ℕ → Type 0
Outcome reclaimers request old new before now result =
    IsNotMade before now result ⊎ IsShown reclaimers request old new before now result

-- what it does for what the words ask, with these reclaimers
pub record Shows (reclaimers : List Meanings) (request : Option Request) (old new : KnownFiles)
    (before now : Outputs) (result : ℕ) : Type 0 where
  pub outcome : Outcome reclaimers request old new before now result
  pub untouched : request ≡ None → new ≡ old
  pub files_kept : FilesAreKept old new
  pub count_kept : before.out.faults ≤ now.out.faults
  pub causes_kept : before.causes.faults ≤ now.causes.faults

-- it shows with the reclaimers of `plc`, under their names
pub record ShowsWithOwn (words : List (List ℕ)) (old new : KnownFiles) (before now : Outputs) (result : ℕ)
    : Type 0 where
  pub reclaimers : List Meanings
  pub own : AreOwn reclaimers
  pub shows : Shows reclaimers (request_of own_names words) old new before now result

-- memory ran out for a reclaimer, and nothing was read or written
pub record HasNoReclaimers (old new : KnownFiles) (before now : Outputs) (result : ℕ) : Type 0 where
  pub status_is : result ≡ no_memory
  pub unread : new ≡ old
  pub unwritten : now ≡ before

-- what the program does: it shows with these reclaimers, unless memory runs out for them
abbrev pub IsShowing : List (List ℕ) → KnownFiles → KnownFiles → Outputs → Outputs → ℕ → Type 0
IsShowing words old new before now result =
    HasNoReclaimers old new before now result ⊎ ShowsWithOwn words old new before now result
