-- All that is said of a call follows from what it comes to.
use Rattle.std.proofs.Common.{◌≡◌, ◌≤◌, ℕ, List, Option, false}
use Rattle.plc_outside.specs.Known.{KnownFiles, KnownSink}
use Rattle.plc_reclaim.specs.Meanings.{Meanings}
use Rattle.plc_cli.specs.Answer.{Outcome}
use Rattle.plc_cli.specs.Program.{Runs}
use Rattle.plc_cli.specs.Reads.{FilesAreKept}
use Rattle.plc_cli.specs.Requests.{Request, asks_for_files}
use Rattle.plc_cli.proofs.Completing.{completeness_of}
use Rattle.plc_cli.proofs.Judging.{headline_from}
use Rattle.plc_cli.proofs.Located.{located_runs}
use Rattle.plc_cli.proofs.Serving.{served_replays}
use Rattle.plc_cli.proofs.Suggested.{suggested_from}

pub runs_of : (reclaimers : List Meanings) (request : Option Request) (old new : KnownFiles)
    (sink sink_now : KnownSink) (result : ℕ) → Outcome reclaimers request old new sink sink_now result
    → (asks_for_files request ≡ false → new ≡ old) → FilesAreKept old new
    → sink.faults ≤ sink_now.faults
    → Runs reclaimers request old new sink sink_now result
runs_of reclaimers request old new sink sink_now result outcome untouched kept later = record {
  outcome = outcome;
  headline = headline_from _ _ _ _ _ _ _ outcome;
  completeness = completeness_of _ _ _ _ _ _ _ outcome;
  served = served_replays _ _ _ _ _ _ _ outcome;
  suggested = suggested_from _ _ _ _ _ _ _ outcome;
  located = located_runs _ _ _ _ _ _ _ outcome;
  untouched = untouched;
  files_kept = kept;
  count_kept = later;
}
