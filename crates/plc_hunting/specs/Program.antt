-- What `plc-hunt` does: which text is due with which status, and to which of two sinks it goes.
use Rattle.std.specs.Prelude.{◌≡◌, ◌≤◌, ◌<◌, ◌⊎◌, ℕ, Bool, if◌then◌else◌, List, Option, Some, None, nat_lt}
use Rattle.plc_auto.specs.declared.event.Event.{Event}
use Rattle.plc_auto.specs.declared.scheme.Scheme.{Scheme}
use Rattle.plc_outside.specs.Known.{KnownFiles, KnownSink}
use Rattle.plc_reclaim.specs.Meanings.{Meanings}
use Rattle.plc_reclaim.specs.Rows.{ActsAs}
use Rattle.plc_cli.specs.Answer.{Ends, IsWordsRefused}
use Rattle.plc_cli.specs.Reads.{FilesAreKept, IsDueForFile}
use Rattle.plc_cli.specs.Statuses.{fails, no_memory}
use Rattle.plc_hunting.specs.Racing.{IsHuntUnder, IsFreeHunt}
use Rattle.plc_hunting.specs.Requests.{Freeing, By, Any, Request}

-- what is answered to the bytes of a file under a reclaimer that acts as this row
pub record IsHuntByRow (row : List Scheme → List Event → Option ℕ) (bytes : List ℕ) (status : ℕ) (text : List ℕ)
    : Type 0 where
  pub reclaimer : Meanings
  pub acts : ActsAs row reclaimer
  pub answer : IsHuntUnder reclaimer bytes status text

-- what is answered to the bytes of a file, by who frees
abbrev pub IsHunt : Freeing → List ℕ → ℕ → List ℕ → Type 0
IsHunt (By row) bytes status text = IsHuntByRow row bytes status text
IsHunt Any bytes status text = IsFreeHunt bytes status text

-- the status and the text that are due, each with its cause
abbrev pub IsDueFor : Option Request → KnownFiles → KnownFiles → ℕ → List ℕ → Type 0
IsDueFor None old new status text = IsWordsRefused old new status text
IsDueFor (Some request) old new status text =
    IsDueForFile old new request.file (λ bytes. IsHunt request.freeing bytes status text) status text

-- ---- the two sinks

-- what is known of the one for answers, and of the one for what keeps from an answer and for what is said beside one
pub record Outputs : Type 0 where
  pub out : KnownSink
  pub said : KnownSink

abbrev pub outputs : KnownSink → KnownSink → Outputs
outputs out said = record { out = out; said = said }

-- 0 and 1 answer a hunt; a greater status says what keeps from one: a refused file, one that can't be read, or wrong
-- words
abbrev pub keeps_from_hunt : ℕ → Bool
keeps_from_hunt status = nat_lt fails status

-- the sink to which a text with this status goes
abbrev pub taking : ℕ → Outputs → KnownSink
taking status known = if keeps_from_hunt status then known.said else known.out

-- a text with its status was written to its sink as far as it went, and what keeps from an answer left the one for
-- answers as it was
pub record IsPut (status : ℕ) (text : List ℕ) (before now : Outputs) (result : ℕ) : Type 0 where
  pub ends : Ends status text (taking status before) (taking status now) result
  pub unanswered : fails < status → now.out ≡ before.out

-- ---- the program

-- the due text was written
pub record IsHunted (request : Option Request) (old new : KnownFiles) (before now : Outputs) (result : ℕ)
    : Type 0 where
  pub status : ℕ
  pub text : List ℕ
  pub due : IsDueFor request old new status text
  pub put : IsPut status text before now result

-- memory ran out before a text was made, and nothing was written
pub record IsNotMade (before now : Outputs) (result : ℕ) : Type 0 where
  pub status_is : result ≡ no_memory
  pub unwritten : now ≡ before

-- memory ran out before a text was made, or the due text was written
abbrev pub Outcome : Option Request → KnownFiles → KnownFiles → Outputs → Outputs → ℕ → Type 0
Outcome request old new before now result =
    IsNotMade before now result ⊎ IsHunted request old new before now result

-- what it does for what the words ask
pub record Hunts (request : Option Request) (old new : KnownFiles) (before now : Outputs) (result : ℕ)
    : Type 0 where
  pub outcome : Outcome request old new before now result
  pub untouched : request ≡ None → new ≡ old
  pub files_kept : FilesAreKept old new
  pub count_kept : before.out.faults ≤ now.out.faults
  pub said_kept : before.said.faults ≤ now.said.faults
