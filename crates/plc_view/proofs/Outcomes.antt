-- The status that is due is never one that says how the writing went; so what a call comes to goes by how far its text
-- was written.
use Rattle.std.proofs.Common.{◌≡◌, ◌≤◌, inl, inr, ℕ, List, Option, Some, None, refl, arith}
use Rattle.plc_outside.specs.Known.{KnownFiles, KnownSink}
use Rattle.plc_outside.specs.Outside.{Appends, AppendsPart}
use Rattle.plc_reclaim.specs.Meanings.{Meanings}
use Rattle.plc_cli.specs.Answer.{Ends, IsUnwritten}
use Rattle.plc_cli.specs.Reads.{IsDueForFile, IsDueForPair}
use Rattle.plc_cli.specs.Statuses.{unwritten, no_memory}
use Rattle.plc_cli.proofs.Statuses.{check_low, replay_low}
use Rattle.plc_cli.proofs.TwoReads.{unread_status, unread_pair_status}
use Rattle.plc_page.specs.Pages.{HasCheckStatus, ShowsCheck}
use Rattle.plc_trace.specs.Pages.{ShowsReplay}
use Rattle.plc_view.specs.Requests.{Request, Page, Lines, Run}
use Rattle.plc_view.specs.Showing.{IsDueFor, page}

module _ (status : ℕ) (text : List ℕ) where
  page_low : (title bytes : List ℕ) → ShowsCheck title bytes (page status text) → status ≤ 3
  page_low title bytes shows =
      let is : status ≡ shows.status = shows.shows.status_is in
      omega (arith, is, check_low shows.status shows.text bytes shows.due)

  lines_low : (bytes : List ℕ) → HasCheckStatus bytes status → status ≤ 3
  lines_low bytes has = check_low status has.text bytes has.due

  run_low : (title : List ℕ) (m : Meanings) (bytes second : List ℕ) → ShowsReplay title m bytes second (page status text)
      → status ≤ 3
  run_low title m bytes second shows =
      let is : status ≡ shows.status = shows.shows.status_is in
      omega (arith, is, replay_low shows.status shows.text m bytes second shows.due)

  file_low : (old new : KnownFiles) (name : List ℕ) (Answers : List ℕ → Type 0) →
      ((bytes : List ℕ) → Answers bytes → status ≤ 3) → IsDueForFile old new name Answers status text → status ≤ 4
  file_low old new name Answers low (inl none) = omega (arith, unread_status status text _ _ _ _ _ _ none)
  file_low old new name Answers low (inr due) = omega (arith, low due.0 due.2)

  pair_low : (old new : KnownFiles) (first second : List ℕ) (most : ℕ) (Answers : List ℕ → List ℕ → Type 0) →
      ((bytes more : List ℕ) → Answers bytes more → status ≤ 3) →
      IsDueForPair old new first second most Answers status text → status ≤ 4
  pair_low old new first second most Answers low (inl none) =
      omega (arith, unread_pair_status status text _ _ _ _ _ none)
  pair_low old new first second most Answers low (inr due) = omega (arith, low due.0 due.1 due.3)

  pub due_low : (reclaimers : List Meanings) (request : Option Request) (old new : KnownFiles)
      → IsDueFor reclaimers request old new status text → status ≤ 4
  due_low reclaimers None old new refused = omega (arith, refused.status_is)
  due_low reclaimers (Some (Page name)) old new due = file_low _ _ _ _ (page_low name) due
  due_low reclaimers (Some (Lines name)) old new due = file_low _ _ _ _ lines_low due
  due_low reclaimers (Some (Run file schedule name number)) old new run =
      pair_low _ _ _ _ _ _ (run_low _ run.reclaimer) run.due

  -- what a write comes to
  module _ (low : status ≤ 4) (sink sink_now : KnownSink) where
    pub all_written : Appends sink sink_now text → Ends status text sink sink_now status
    all_written a = record {
      only = inl refl;
      whole = λ e. a;
      failed = λ e. absurd (omega (arith, low, e));
      memory = λ e. absurd (omega (arith, low, e));
    }

    pub part_written : IsUnwritten text sink sink_now → Ends status text sink sink_now unwritten
    part_written a = record {
      only = inr (inl refl);
      whole = λ e. absurd (omega (arith, low, e));
      failed = λ e. a;
      memory = λ e. absurd (omega (arith, e));
    }

    pub memory_ran_out : AppendsPart sink sink_now text → Ends status text sink sink_now no_memory
    memory_ran_out a = record {
      only = inr (inr refl);
      whole = λ e. absurd (omega (arith, low, e));
      failed = λ e. absurd (omega (arith, e));
      memory = λ e. a;
    }
