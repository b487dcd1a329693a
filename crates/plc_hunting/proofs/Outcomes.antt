-- The status that is due is never one that says how the writing went; so what a call comes to goes by how far its text
-- was written.
use Rattle.std.proofs.Common.{◌≡◌, ◌≤◌, inl, inr, ℕ, List, Option, Some, None, refl, arith, subst}
use Rattle.plc_base.specs.FileSizes.{largest_file}
use Rattle.plc_outside.specs.Known.{KnownFiles, KnownSink}
use Rattle.plc_outside.specs.Outside.{Appends, AppendsPart}
use Rattle.plc_reclaim.specs.Meanings.{Meanings}
use Rattle.plc_check.specs.declared.judged.Judged.{Judged}
use Rattle.plc_check.specs.Answered.{judged_of}
use Rattle.plc_cli.specs.Answer.{Ends, IsUnwritten}
use Rattle.plc_cli.specs.Reads.{IsDueForFile, IsFound}
use Rattle.plc_cli.specs.Statuses.{fails, unwritten, no_memory}
use Rattle.plc_cli.proofs.TwoReads.{unread_status}
use Rattle.plc_hunting.specs.Program.{IsHunt, IsDueFor}
use Rattle.plc_hunting.specs.Racing.{IsHuntedBy, IsHuntUnder, IsHuntedFreely, IsFreeHunt}
use Rattle.plc_hunting.specs.Requests.{Freeing, By, Any, Request}

-- where bytes were found in a file, what is answered to them is due for the file
pub due_where_found : (old new : KnownFiles) (name : List ℕ) (Answers : List ℕ → Type 0) (bytes now : List ℕ)
    (status : ℕ) (text : List ℕ) → IsFound old new name largest_file bytes → now ≡ bytes → Answers now
    → IsDueForFile old new name Answers status text
due_where_found old new name Answers bytes now status text found e answer =
    inr (bytes, record { others = found.others; read = found.read; gave = found.gave }, subst Answers e answer)

module _ (status : ℕ) (text : List ℕ) where
  -- a race, or none
  by_low : (m : Meanings) (j : Judged) → IsHuntedBy m j status text → status ≤ fails
  by_low m j (inl found) = omega (arith, found.0)
  by_low m j (inr none) = omega (arith, none.0)

  freely_low : (j : Judged) → IsHuntedFreely j status text → status ≤ fails
  freely_low j (inl found) = omega (arith, found.0)
  freely_low j (inr none) = omega (arith, none.0)

  under_low : (m : Meanings) (bytes : List ℕ) → IsHuntUnder m bytes status text → status ≤ 3
  under_low m bytes (inl refused) = omega (arith, refused.status_is)
  under_low m bytes (inr due) = omega (arith, by_low m (judged_of due.unit) due.answer)

  free_low : (bytes : List ℕ) → IsFreeHunt bytes status text → status ≤ 3
  free_low bytes (inl refused) = omega (arith, refused.status_is)
  free_low bytes (inr due) = omega (arith, freely_low (judged_of due.unit) due.answer)

  hunt_low : (freeing : Freeing) (bytes : List ℕ) → IsHunt freeing bytes status text → status ≤ 3
  hunt_low (By row) bytes hunt = under_low hunt.reclaimer bytes hunt.answer
  hunt_low Any bytes hunt = free_low bytes hunt

  file_low : (old new : KnownFiles) (request : Request)
      → IsDueForFile old new request.file (λ bytes. IsHunt request.freeing bytes status text) status text → status ≤ 4
  file_low old new request (inl none) = omega (arith, unread_status status text _ _ _ _ _ _ none)
  file_low old new request (inr due) = omega (arith, hunt_low request.freeing due.0 due.2)

  pub due_low : (request : Option Request) (old new : KnownFiles) → IsDueFor request old new status text → status ≤ 4
  due_low None old new refused = omega (arith, refused.status_is)
  due_low (Some request) old new due = file_low old new request due

  -- what a write comes to
  module _ (low : status ≤ 4) (sink sink_now : KnownSink) where
    pub all_written : Appends sink sink_now text → Ends status text sink sink_now status
    all_written a = record {
      only = inl refl;
      whole = λ e. a;
      failed = λ e. absurd (omega (arith, low, e));
      memory = λ e. absurd (omega (arith, low, e));
    }

    pub part_written : IsUnwritten text sink sink_now → Ends status text sink sink_now unwritten
    part_written a = record {
      only = inr (inl refl);
      whole = λ e. absurd (omega (arith, low, e));
      failed = λ e. a;
      memory = λ e. absurd (omega (arith, e));
    }

    pub memory_ran_out : AppendsPart sink sink_now text → Ends status text sink sink_now no_memory
    memory_ran_out a = record {
      only = inr (inr refl);
      whole = λ e. absurd (omega (arith, low, e));
      failed = λ e. absurd (omega (arith, e));
      memory = λ e. a;
    }
