-- The status that is due is never one that says how the writing went, and that of an answer never one that says how
-- a read went.
use Rattle.std.proofs.Common.{◌≤◌, inl, inr, ℕ, List, [], Option, Some, None, refl, sym, arith, append-nil}
use Rattle.plc_outside.specs.Known.{KnownFiles, KnownSink}
use Rattle.plc_outside.specs.Outside.{Appends, AppendsPart}
use Rattle.plc_reclaim.specs.Meanings.{Meanings}
use Rattle.plc_replay.specs.declared.end.End.{End}
use Rattle.plc_replay.specs.declared.end.End.TheVariants.{Ended, Race, Impossible, ForbiddenFree}
use Rattle.plc_check.specs.declared.judged.Judged.{Judged}
use Rattle.plc_check.specs.declared.verdict.Verdict.{Verdict}
use Rattle.plc_check.specs.declared.verdict.Verdict.TheVariants.{Safe, Untyped, Unproved}
use Rattle.plc_parse.specs.declared.unit.Unit.{Unit as FileUnit}
use Rattle.plc_cert.specs.declared.cert.Cert.{Cert}
use Rattle.plc_check.specs.declared.certified.Certified.{Certified}
use Rattle.plc_check.specs.declared.certified.Certified.TheVariants.{Yes, No}
use Rattle.plc_suggest.specs.declared.suggestion.Suggestion.{Suggestion}
use Rattle.plc_suggest.specs.declared.suggestion.Suggestion.TheVariants.{Found, Insufficient}
use Rattle.plc_at.specs.declared.claim.LocationClaim.{LocationClaim}
use Rattle.plc_check.specs.Answered.{judged_of}
use Rattle.plc_cli.specs.Certificates.{IsCertifiedAs, IsCertificateOf, IsCertificateJudged, IsCertificateAnswered}
use Rattle.plc_cli.specs.Certificates.{IsVerificationOf, certified_status}
use Rattle.plc_cli.specs.Files.{IsAnsweredFile, IsTold, IsJudgedAs, IsAnswerTo, IsPrintedAs, IsPrintOf}
use Rattle.plc_cli.specs.Samples.{IsSampledAs, IsSampleAnswer}
use Rattle.plc_sample.specs.Sample.{sample_text}
use Rattle.plc_logic.specs.declared.clause.Outline.{Outline}
use Rattle.plc_cli.specs.Locations.{AreClaimsAnswered, IsAnsweredWith, IsLocationAnswered, IsLocationOf}
use Rattle.plc_cli.specs.Requests.{Request, Check, Certify, Print, Verify, Replay, Sample, Suggest, Locate}
use Rattle.plc_cli.specs.Reads.{IsDueForFile, IsDueForPair}
use Rattle.plc_cli.specs.Answer.{IsScheduleAnswered, IsReplayOf, IsDueFor, IsUnwritten, Ends, Outcome}
use Rattle.plc_cli.specs.Statuses.{unwritten, no_memory, end_status}
use Rattle.plc_cli.specs.Suggestions.{IsSuggestionAnswered, IsSuggestionOf, suggestion_status}
use Rattle.plc_cli.specs.Verdicts.{verdict_status}
use Rattle.plc_cli.proofs.TwoReads.{unread_status, unread_pair_status}

end_low : (end : End) → end_status end ≤ 3
end_low (Ended lines events freed) = omega arith
end_low (Race kind line prim) = omega arith
end_low (Impossible line) = omega arith
end_low (ForbiddenFree a line) = omega arith

verdict_low : (verdict : Verdict) → verdict_status verdict ≤ 3
verdict_low (Safe typing count) = omega arith
verdict_low (Untyped step prim fault) = omega arith
verdict_low (Unproved o set model) = omega arith

certified_low : (certified : Certified) → certified_status certified ≤ 3
certified_low (Yes cert) = omega arith
certified_low (No verdict) = verdict_low verdict

suggestion_low : (suggestion : Suggestion) → suggestion_status suggestion ≤ 3
suggestion_low (Found spots) = omega arith
suggestion_low (Insufficient step prim fault) = omega arith

module _ (status : ℕ) (text : List ℕ) where
  -- a file is refused, or what is due for its unit has a low status
  answered_low : (IsDue : FileUnit → ℕ → List ℕ → Type 0) → ((u : FileUnit) → IsDue u status text → status ≤ 3) →
      (bytes : List ℕ) → IsAnsweredFile IsDue bytes status text → status ≤ 3
  answered_low IsDue low bytes (inl refused) = omega (arith, refused.status_is)
  answered_low IsDue low bytes (inr spelled) = low spelled.unit spelled.answer

  -- what is told has a low status where each thing that may be told has one
  told_low : {A : Type 0} (IsRight : A → Type 0) (status_of : A → ℕ) (text_of : A → List ℕ) → ((x : A) → status_of x ≤ 3) →
      IsTold IsRight status_of text_of status text → status ≤ 3
  told_low IsRight status_of text_of low told = omega (arith, told.status_is, low told.what)

  pub check_low : (bytes : List ℕ) → IsAnswerTo bytes status text → status ≤ 3
  check_low bytes = answered_low (λ u. IsJudgedAs (judged_of u)) (λ u. told_low _ _ _ verdict_low) bytes

  pub certify_low : (bytes : List ℕ) → IsCertificateOf bytes status text → status ≤ 3
  certify_low bytes = answered_low (λ u. IsCertifiedAs (judged_of u)) (λ u. told_low _ _ _ certified_low) bytes

  pub print_low : (bytes : List ℕ) → IsPrintOf bytes status text → status ≤ 3
  print_low bytes = answered_low IsPrintedAs (λ u printed. omega (arith, printed.status_is)) bytes

  certificate_low : (j : Judged) (cert : Cert) → IsCertificateJudged j cert status text → status ≤ 3
  certificate_low j cert (inl verified) = omega (arith, verified.status_is)
  certificate_low j cert (inr invalid) = omega (arith, invalid.status_is)

  second_low : (j : Judged) (second : List ℕ) → IsCertificateAnswered j second status text → status ≤ 3
  second_low j second (inl refused) = omega (arith, refused.status_is)
  second_low j second (inr judged) = certificate_low j judged.cert judged.answer

  pub verify_low : (bytes second : List ℕ) → IsVerificationOf bytes second status text → status ≤ 3
  verify_low bytes second =
      answered_low (λ u. IsCertificateAnswered (judged_of u) second) (λ u. second_low (judged_of u) second) bytes

  schedule_low : (j : Judged) (r : Meanings) (bytes : List ℕ) → IsScheduleAnswered j r bytes status text → status ≤ 3
  schedule_low j r bytes (inl refused) = omega (arith, refused.status_is)
  schedule_low j r bytes (inr replayed) = told_low _ _ _ end_low replayed.answer

  pub replay_low : (r : Meanings) (bytes second : List ℕ) → IsReplayOf r bytes second status text → status ≤ 3
  replay_low r bytes second = answered_low (λ u. IsScheduleAnswered (judged_of u) r second) (λ u. schedule_low (judged_of u) r second) bytes

  pub sample_low : (k n : ℕ) → IsSampleAnswer k n status text → status ≤ 3
  sample_low k n = answered_low (λ u. IsSampledAs k n (judged_of u)) (λ u. told_low _ _ _ verdict_low) (sample_text k n)

  suggested_low : (j : Judged) → IsSuggestionAnswered j status text → status ≤ 3
  suggested_low j (inl many) = omega (arith, many.status_is)
  suggested_low j (inr told) = told_low _ _ _ suggestion_low told.answer

  pub suggest_low : (bytes : List ℕ) → IsSuggestionOf bytes status text → status ≤ 3
  suggest_low bytes = answered_low (λ u. IsSuggestionAnswered (judged_of u)) (λ u. suggested_low (judged_of u)) bytes

  extended_low : (j : Judged) (outline : Outline) (claims : List LocationClaim)
      → IsAnsweredWith j outline claims status text → status ≤ 3
  extended_low j outline claims (inl large) = omega (arith, large.status_is)
  extended_low j outline claims (inr told) = told_low _ _ _ verdict_low told.answer

  claims_low : (j : Judged) (claims : List LocationClaim) → AreClaimsAnswered j claims status text → status ≤ 3
  claims_low j claims (inl untyped) = omega (arith, untyped.status_is)
  claims_low j claims (inr (inl unlocated)) = omega (arith, unlocated.status_is)
  claims_low j claims (inr (inr (inl many))) = omega (arith, many.status_is)
  claims_low j claims (inr (inr (inr extended))) = extended_low j _ claims extended.answer

  location_low : (j : Judged) (second : List ℕ) → IsLocationAnswered j second status text → status ≤ 3
  location_low j second (inl none) = omega (arith, none.status_is)
  location_low j second (inr (inl none)) = omega (arith, none.status_is)
  location_low j second (inr (inr read)) = claims_low j read.claims read.answer

  pub locate_low : (bytes second : List ℕ) → IsLocationOf bytes second status text → status ≤ 3
  locate_low bytes second =
      answered_low (λ u. IsLocationAnswered (judged_of u) second) (λ u. location_low (judged_of u) second) bytes

  file_low : (old new : KnownFiles) (name : List ℕ) (Answers : List ℕ → Type 0) →
      ((bytes : List ℕ) → Answers bytes → status ≤ 3) → IsDueForFile old new name Answers status text → status ≤ 4
  file_low old new name Answers low (inl none) = omega (arith, unread_status status text _ _ _ _ _ _ none)
  file_low old new name Answers low (inr due) = omega (arith, low due.0 due.2)

  pair_low : (old new : KnownFiles) (first second : List ℕ) (most : ℕ) (Answers : List ℕ → List ℕ → Type 0) →
      ((bytes more : List ℕ) → Answers bytes more → status ≤ 3) →
      IsDueForPair old new first second most Answers status text → status ≤ 4
  pair_low old new first second most Answers low (inl none) =
      omega (arith, unread_pair_status status text _ _ _ _ _ none)
  pair_low old new first second most Answers low (inr due) = omega (arith, low due.0 due.1 due.3)

  due_low : (reclaimers : List Meanings) (request : Option Request) (old new : KnownFiles) → IsDueFor reclaimers request old new status text → status ≤ 4
  due_low reclaimers None old new refused = omega (arith, refused.status_is)
  due_low reclaimers (Some (Check name)) old new due = file_low _ _ _ _ check_low due
  due_low reclaimers (Some (Certify name)) old new due = file_low _ _ _ _ certify_low due
  due_low reclaimers (Some (Print name)) old new due = file_low _ _ _ _ print_low due
  due_low reclaimers (Some (Verify name certificate)) old new due = pair_low _ _ _ _ _ _ verify_low due
  due_low reclaimers (Some (Replay file schedule number)) old new replay = pair_low _ _ _ _ _ _ (replay_low replay.reclaimer) replay.due
  due_low reclaimers (Some (Sample k n)) old new sample = omega (arith, sample_low k n sample.answer)
  due_low reclaimers (Some (Suggest name)) old new due = file_low _ _ _ _ suggest_low due
  due_low reclaimers (Some (Locate name claims)) old new due = pair_low _ _ _ _ _ _ locate_low due

  module _ (reclaimers : List Meanings) (request : Option Request) (old new : KnownFiles) (due : IsDueFor reclaimers request old new status text) (sink sink_now : KnownSink) where
    low : status ≤ 4
    low = due_low reclaimers request old new due

    -- the due text was written as far as this says
    written_so : (result : ℕ) → Ends status text sink sink_now result → Outcome reclaimers request old new sink sink_now result
    written_so result ends = inr (record { status = status; text = text; due = due; ends = ends })

    pub all_written : Appends sink sink_now text →
        Outcome reclaimers request old new sink sink_now status
    all_written a = written_so status (record {
      only = inl refl;
      whole = λ e. a;
      failed = λ e. absurd (omega (arith, low, e));
      memory = λ e. absurd (omega (arith, low, e));
    })

    pub part_written : IsUnwritten text sink sink_now → Outcome reclaimers request old new sink sink_now unwritten
    part_written a = written_so unwritten (record {
      only = inr (inl refl);
      whole = λ e. absurd (omega (arith, low, e));
      failed = λ e. a;
      memory = λ e. absurd (omega (arith, e));
    })

    pub memory_ran_out : AppendsPart sink sink_now text →
        Outcome reclaimers request old new sink sink_now no_memory
    memory_ran_out a = written_so no_memory (record {
      only = inr (inr refl);
      whole = λ e. absurd (omega (arith, low, e));
      failed = λ e. absurd (omega (arith, e));
      memory = λ e. a;
    })
