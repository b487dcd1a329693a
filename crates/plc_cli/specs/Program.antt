-- What the program does: with any reclaimers, and with its own.
use Rattle.std.specs.Prelude.{◌≡◌, ◌≤◌, ℕ, List, [], ◌∷◌, ◌⊎◌, Option, false, codes}
use Rattle.plc_outside.specs.Known.{KnownFiles, KnownSink}
use Rattle.plc_reclaim.specs.Meanings.{Meanings}
use Rattle.plc_reclaim.specs.Rows.{ActsAs, leak_row, list_row, hazard_row, epoch_row}
use Rattle.plc_cli.specs.Reads.{FilesAreKept}
use Rattle.plc_cli.specs.Requests.{Request, asks_for_files, request_of}
use Rattle.plc_cli.specs.Answer.{Outcome}
use Rattle.plc_cli.specs.Completeness.{Completeness}
use Rattle.plc_cli.specs.Headline.{Headline}
use Rattle.plc_cli.specs.Locations.{LocatedRuns}
use Rattle.plc_cli.specs.Served.{ServedReplays}
use Rattle.plc_cli.specs.Statuses.{no_memory}
use Rattle.plc_cli.specs.Suggestions.{Suggested}

-- what `run` promises for what the words ask, with these reclaimers, clause by clause
pub record Runs
    (reclaimers : List Meanings) (request : Option Request) (old new : KnownFiles) (sink sink_now : KnownSink)
    (result : ℕ) : Type 0 where
  pub outcome : Outcome reclaimers request old new sink sink_now result
  pub headline : Headline request old new result
  pub completeness : Completeness reclaimers request old new sink sink_now result
  pub served : ServedReplays reclaimers request old new sink sink_now result
  pub suggested : Suggested request old new sink sink_now result
  pub located : LocatedRuns request old new result
  pub untouched : asks_for_files request ≡ false → new ≡ old
  pub files_kept : FilesAreKept old new
  pub count_kept : sink.faults ≤ sink_now.faults

-- ---- its own reclaimers

-- the names of its reclaimers, in this order
abbrev pub own_names : List (List ℕ)
own_names = codes "leak" ∷ codes "list" ∷ codes "hazard" ∷ codes "epoch" ∷ []

-- its reclaimers, each of which acts as the row of its name
pub record AreOwn (reclaimers : List Meanings) : Type 0 where
  pub leak : Meanings
  pub list : Meanings
  pub hazard : Meanings
  pub epoch : Meanings
  pub are : reclaimers ≡ leak ∷ list ∷ hazard ∷ epoch ∷ []
  pub leak_acts : ActsAs leak_row leak
  pub list_acts : ActsAs list_row list
  pub hazard_acts : ActsAs hazard_row hazard
  pub epoch_acts : ActsAs epoch_row epoch

-- it runs with these, under their names
pub record RunsWithOwn (words : List (List ℕ)) (old new : KnownFiles) (sink sink_now : KnownSink) (result : ℕ)
    : Type 0 where
  pub reclaimers : List Meanings
  pub own : AreOwn reclaimers
  pub runs : Runs reclaimers (request_of own_names words) old new sink sink_now result

-- memory ran out for a reclaimer, and nothing was read or written
pub record HasNoReclaimers (old new : KnownFiles) (sink sink_now : KnownSink) (result : ℕ) : Type 0 where
  pub status_is : result ≡ no_memory
  pub unread : new ≡ old
  pub unwritten : sink_now ≡ sink

-- what the program does: it runs with its own reclaimers, unless memory runs out for them
abbrev pub IsProgram : List (List ℕ) → KnownFiles → KnownFiles → KnownSink → KnownSink → ℕ → Type 0
IsProgram words old new sink sink_now result =
    HasNoReclaimers old new sink sink_now result ⊎ RunsWithOwn words old new sink sink_now result
