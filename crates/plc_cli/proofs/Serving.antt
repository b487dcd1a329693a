-- A replay that fails under a reclaimer that serves the file fails otherwise than by a forbidden free.
use Rattle.std.proofs.Common.{◌≡◌, ℕ, List, [], ◌∷◌, Option, Some, ◌⊎◌, refl, sym, ap, ◌∙◌, subst, arith, inl, inr}
use Rattle.std.specs.Prelude.{slice_get}
use Rattle.std.proofs.lemmas.List.{append_cancel_left}
use Rattle.plc_base.specs.FileSizes.{largest_schedule}
use Rattle.plc_outside.specs.Known.{KnownFiles, KnownSink}
use Rattle.plc_outside.specs.Outside.{Appends}
use Rattle.plc_outside.specs.Reading.{Reading}
use Rattle.plc_parse.specs.declared.unit.Unit.{Unit as FileUnit}
use Rattle.plc_check.specs.Loading.{IsFileOf}
use Rattle.plc_check.specs.Answered.{judged_of}
use Rattle.plc_check.proofs.Fitting.{all_files_fit}
use Rattle.plc_check.proofs.Unique.{one_file}
use Rattle.plc_sched.specs.declared.schedule.Schedule.{Schedule}
use Rattle.plc_reclaim.specs.Meanings.{Meanings}
use Rattle.plc_replay.specs.declared.end.End.{End}
use Rattle.plc_replay.specs.Outcome.{ComesTo}
use Rattle.plc_replay.specs.Laws.{Serves, IsAllowedEnd}
use Rattle.plc_replay.proofs.Forbidding.{never_forbidden}
use Rattle.plc_cli.specs.Reads.{IsGivenPair, IsDueForPair, reading}
use Rattle.plc_cli.specs.Requests.{Request, Replay}
use Rattle.plc_cli.specs.Answer.{IsScheduleAnswered, IsReplayOf, IsDueFor, IsDueForReplay, Outcome}
use Rattle.plc_cli.specs.Statuses.{unwritten, no_memory}
use Rattle.plc_cli.specs.Served.{IsServedBy, FailsOtherwise, ServedReplays}
use Rattle.plc_cli.proofs.TwoReads.{told_is, unread_pair_status}

-- ---- the end of a schedule

end_allowed : (u : FileUnit) (bytes : List ℕ) → IsFileOf bytes u → (m : Meanings) → Serves u.observer m → (s : Schedule) (end : End) →
    ComesTo (judged_of u).flow u.observer m (judged_of u).schemes s end → IsAllowedEnd end
end_allowed u bytes spelled m serves s end comes a line e =
    let fits = all_files_fit bytes u spelled in
    never_forbidden (judged_of u).flow u.observer (judged_of u).schemes m s
    (record { sorted = fits.fits.sorted; well_formed = fits.observer.well_formed; schemes_are = refl; serves = serves })
    a line (subst (ComesTo (judged_of u).flow u.observer m (judged_of u).schemes s) e comes)

module _ (status : ℕ) (text : List ℕ) (one : status ≡ 1) where
  module _ (m : Meanings) (bytes second : List ℕ) (served : IsServedBy m bytes) (sink sink_now : KnownSink) (whole : Appends sink sink_now text) where
    schedule_fails : IsScheduleAnswered (judged_of served.unit) m second status text → FailsOtherwise served.unit m second sink sink_now
    schedule_fails (inl refused) = absurd (let is = refused.status_is in omega arith)
    schedule_fails (inr replayed) = record {
      schedule = replayed.schedule;
      spelled = replayed.spelled;
      end = replayed.answer.what;
      comes = replayed.answer.right;
      failed = sym replayed.answer.status_is ∙ one;
      allowed = end_allowed served.unit bytes served.spelled m served.serves replayed.schedule replayed.answer.what replayed.answer.right;
      text = subst (Appends sink sink_now) replayed.answer.text_is whole;
    }

    replay_fails : IsReplayOf m bytes second status text → FailsOtherwise served.unit m second sink sink_now
    replay_fails (inl refused) = absurd (let is = refused.status_is in omega arith)
    replay_fails (inr replayed) =
        schedule_fails (subst (λ (u : FileUnit). IsScheduleAnswered (judged_of u) m second status text) (one_file bytes replayed.unit served.unit replayed.spelled served.spelled) replayed.answer)

-- ---- the bytes that are replayed

-- those that the reads gave
same_reads : (file schedule : List ℕ) (bytes second given more : List ℕ) → reading file bytes ∷ reading schedule second ∷ [] ≡ reading file given ∷ reading schedule more ∷ [] → (bytes ≡ given) × (second ≡ more)
same_reads file schedule bytes second given more e = (ap first_bytes e, ap second_bytes e)
  where
    first_bytes : List Reading → List ℕ
    first_bytes [] = []
    first_bytes (r ∷ rs) = r.bytes

    second_bytes : List Reading → List ℕ
    second_bytes [] = []
    second_bytes (r ∷ rs) = first_bytes rs

same_reclaimer : (reclaimers : List Meanings) (number : ℕ) (m n : Meanings) → slice_get reclaimers number ≡ Some m → slice_get reclaimers number ≡ Some n → m ≡ n
same_reclaimer reclaimers number m n at there = let e : Some m ≡ Some n = sym at ∙ there in cc

module _ (reclaimers : List Meanings) (old new : KnownFiles) (sink sink_now : KnownSink) (file schedule : List ℕ) (number : ℕ) (m : Meanings) (there : slice_get reclaimers number ≡ Some m) where
  -- the bytes of a due answer with status 1 are those that are known
  abbrev AreBytes : List ℕ → List ℕ → Type 0
  AreBytes bytes second = (given more : List ℕ) → IsGivenPair old new file schedule largest_schedule given more → (given ≡ bytes) × (more ≡ second)

  due_fails : (bytes second : List ℕ) → AreBytes bytes second → (served : IsServedBy m bytes) → (status : ℕ) (text : List ℕ) → status ≡ 1 → Appends sink sink_now text →
      IsDueForReplay reclaimers old new file schedule number status text → FailsOtherwise served.unit m second sink sink_now
  due_fails bytes second are served status text one whole due = go due.due
    where
      same : due.reclaimer ≡ m
      same = same_reclaimer reclaimers number due.reclaimer m due.there there

      go : IsDueForPair old new file schedule largest_schedule (λ bytes second. IsReplayOf due.reclaimer bytes second status text) status text → FailsOtherwise served.unit m second sink sink_now
      go (inl none) = absurd (let is = unread_pair_status status text _ _ _ _ _ none in omega arith)
      go (inr given) =
          let known = are given.0 given.1 given.2 in
          let at_bytes = subst (λ (b : List ℕ). IsReplayOf due.reclaimer b given.1 status text) known.0 given.3 in
          let at_both = subst (λ (b : List ℕ). IsReplayOf due.reclaimer bytes b status text) known.1 at_bytes in
          replay_fails status text one m bytes second served sink sink_now whole (subst (λ (r : Meanings). IsReplayOf r bytes second status text) same at_both)

  fails_otherwise : (request : Option Request) (result : ℕ) → Outcome reclaimers request old new sink sink_now result → request ≡ Some (Replay file schedule number) →
      (bytes second : List ℕ) → AreBytes bytes second → (served : IsServedBy m bytes) → result ≡ 1 → FailsOtherwise served.unit m second sink sink_now
  fails_otherwise request result (inl none) asked bytes second are served one = absurd (let is = none.0 in omega arith)
  fails_otherwise request result (inr written) asked bytes second are served one = go written.ends.only
    where
      due : IsDueForReplay reclaimers old new file schedule number written.status written.text
      due = subst (λ (r : Option Request). IsDueFor reclaimers r old new written.status written.text) asked written.due

      go : (result ≡ written.status) ⊎ ((result ≡ unwritten) ⊎ (result ≡ no_memory)) → FailsOtherwise served.unit m second sink sink_now
      go (inl is) = due_fails bytes second are served written.status written.text (sym is ∙ one) (written.ends.whole is) due
      go (inr (inl is)) = absurd (omega arith)
      go (inr (inr is)) = absurd (omega arith)

pub served_replays : (reclaimers : List Meanings) (request : Option Request) (old new : KnownFiles) (sink sink_now : KnownSink) (result : ℕ) → Outcome reclaimers request old new sink sink_now result → ServedReplays reclaimers request old new sink sink_now result
served_replays reclaimers request old new sink sink_now result outcome = record {
  read = λ file schedule bytes second number m asked there gave served one.
      fails_otherwise reclaimers old new sink sink_now file schedule number m there request result outcome asked bytes second
      (λ given more pair. same_reads file schedule given more bytes second (append_cancel_left old.given _ _ (sym pair.gave ∙ gave))) served one;
  told = λ file schedule bytes second number m asked there content contents served one.
      fails_otherwise reclaimers old new sink sink_now file schedule number m there request result outcome asked bytes second
      (λ given more pair. (told_is (old.content file) given bytes pair.read.told content, told_is (old.content schedule) more second pair.read_second.told contents)) served one;
}
