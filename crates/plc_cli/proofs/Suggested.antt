-- From the answer that is due to what the statuses of `suggest` say: the claims that were written are enough and each
-- is needed, or no claims are enough.
use Rattle.std.proofs.Common.{◌≡◌, ◌≤◌, ◌⊎◌, inl, inr, ℕ, List, Option, Some, sym, subst, arith}
use Rattle.plc_outside.specs.Known.{KnownFiles, KnownSink}
use Rattle.plc_outside.specs.Outside.{Appends}
use Rattle.plc_parse.specs.declared.unit.Unit.{Unit as FileUnit}
use Rattle.plc_flow.specs.Lowering.{flow_of}
use Rattle.plc_flow.specs.Skeleton.{skeleton_of}
use Rattle.plc_reclaim.specs.Meanings.{Meanings}
use Rattle.plc_check.specs.Loading.{IsFileOf}
use Rattle.plc_check.specs.Answered.{judged_of}
use Rattle.plc_suggest.specs.declared.suggestion.Suggestion.{Suggestion}
use Rattle.plc_suggest.specs.declared.suggestion.Suggestion.TheVariants.{Found, Insufficient}
use Rattle.plc_suggest.specs.Spots.{spots_of, marked}
use Rattle.plc_suggest.specs.Suggestions.{IsSuggestion}
use Rattle.plc_suggest.proofs.Minimal.{least_set, never_typable}
use Rattle.plc_cli.specs.Answer.{IsDueFor, IsWritten, Outcome}
use Rattle.plc_cli.specs.Reads.{IsGivenFile, IsDueForFile}
use Rattle.plc_cli.specs.Requests.{Request, Suggest}
use Rattle.plc_cli.specs.Statuses.{holds, fails, unwritten, no_memory}
use Rattle.plc_cli.specs.Suggestions.{IsSuggestionAnswered, IsSuggestionOf, suggestion_status, suggestion_text}
use Rattle.plc_cli.specs.Suggestions.{AreSuggested, HasNoTypingByClaims, Suggested}
use Rattle.plc_cli.proofs.Judging.{stuck_or_typed}
use Rattle.plc_cli.proofs.TwoReads.{told_is, unread_status}

-- ---- what the answer to bytes says

module _ (bytes : List ℕ) (status : ℕ) (text : List ℕ) where
  module _ (sink sink_now : KnownSink) (whole : Appends sink sink_now text)
      (zero : status ≡ holds) where
    found : (u : FileUnit) → IsFileOf bytes u → (what : Suggestion)
        → IsSuggestion u.observer (skeleton_of (flow_of u.file)) what → status ≡ suggestion_status what
        → text ≡ suggestion_text (judged_of u) what → AreSuggested bytes sink sink_now
    found u spelled (Found spots) right status_is text_is = record {
      unit = u;
      spelled = spelled;
      spots = spots;
      least = least_set u.observer (skeleton_of (flow_of u.file)) spots right.0 right.1;
      written = subst (Appends sink sink_now) text_is whole;
    }
    found u spelled (Insufficient step prim fault) right status_is text_is = absurd (omega (arith, status_is, zero))

    answer_found : (u : FileUnit) → IsFileOf bytes u → IsSuggestionAnswered (judged_of u) status text
        → AreSuggested bytes sink sink_now
    answer_found u spelled (inl many) = absurd (omega (arith, many.status_is, zero))
    answer_found u spelled (inr told) =
        found u spelled told.answer.what told.answer.right told.answer.status_is told.answer.text_is

    suggested_at_0 : IsSuggestionOf bytes status text → AreSuggested bytes sink sink_now
    suggested_at_0 (inl refused) = absurd (omega (arith, refused.status_is, zero))
    suggested_at_0 (inr file) = answer_found file.unit file.spelled file.answer

  module _ (one : status ≡ fails) where
    none : (u : FileUnit) → IsFileOf bytes u → (what : Suggestion)
        → IsSuggestion u.observer (skeleton_of (flow_of u.file)) what → status ≡ suggestion_status what
        → HasNoTypingByClaims bytes
    none u spelled (Found spots) right status_is = absurd (omega (arith, status_is, one))
    none u spelled (Insufficient step prim fault) right status_is =
        let s = skeleton_of (flow_of u.file) in
        record {
          unit = u;
          spelled = spelled;
          never = never_typable u.observer s (stuck_or_typed u.observer (marked (spots_of s) s) step.0 _ fault right);
        }

    answer_none : (u : FileUnit) → IsFileOf bytes u → IsSuggestionAnswered (judged_of u) status text
        → HasNoTypingByClaims bytes
    answer_none u spelled (inl many) = absurd (omega (arith, many.status_is, one))
    answer_none u spelled (inr told) = none u spelled told.answer.what told.answer.right told.answer.status_is

    none_at_1 : IsSuggestionOf bytes status text → HasNoTypingByClaims bytes
    none_at_1 (inl refused) = absurd (omega (arith, refused.status_is, one))
    none_at_1 (inr file) = answer_none file.unit file.spelled file.answer

-- ---- the bytes that are judged

-- with a status that says something of a file, the whole due text was written
pub whole_status : (status result : ℕ) → result ≤ 3 → (result ≡ status) ⊎ ((result ≡ unwritten) ⊎ (result ≡ no_memory))
    → result ≡ status
whole_status status result low (inl is) = is
whole_status status result low (inr (inl is)) = absurd (omega (arith, low, is))
whole_status status result low (inr (inr is)) = absurd (omega (arith, low, is))

module _ (reclaimers : List Meanings) (request : Option Request) (old new : KnownFiles) (sink sink_now : KnownSink)
    (result : ℕ) where
  -- what was answered to bytes, and written whole
  pub record IsAnswered (bytes : List ℕ) : Type 0 where
    pub text : List ℕ
    pub answer : IsSuggestionOf bytes result text
    pub whole : Appends sink sink_now text

  module _ (name : List ℕ) (asked : request ≡ Some (Suggest name)) (low : result ≤ 3) where
    -- the bytes that were given, with their answer
    abbrev IsAnsweredRead : Type 0
    IsAnsweredRead = (bytes : List ℕ) × IsGivenFile old new name bytes × IsAnswered bytes

    of_due : (text : List ℕ) → Appends sink sink_now text
        → IsDueForFile old new name (λ bytes. IsSuggestionOf bytes result text) result text → IsAnsweredRead
    of_due text whole (inl none) = absurd (omega (arith, low, unread_status result text _ _ _ _ _ _ none))
    of_due text whole (inr due) = (due.0, due.1, record { text = text; answer = due.2; whole = whole })

    of_written : (w : IsWritten reclaimers request old new sink sink_now result) → result ≡ w.status → IsAnsweredRead
    of_written w is =
        let due = subst (λ (r : Option Request). IsDueFor reclaimers r old new w.status w.text) asked w.due in
        of_due w.text (w.ends.whole is)
        (subst (λ (s : ℕ). IsDueForFile old new name (λ bytes. IsSuggestionOf bytes s w.text) s w.text) (sym is) due)

    answered_read : Outcome reclaimers request old new sink sink_now result → IsAnsweredRead
    answered_read (inl none) = absurd (omega (arith, low, none.0))
    answered_read (inr w) = of_written w (whole_status w.status result low w.ends.only)

    answered_content : (content : List ℕ) → old.content name ≡ Some content
        → Outcome reclaimers request old new sink sink_now result → IsAnswered content
    answered_content content told outcome =
        let read = answered_read outcome in
        subst IsAnswered (told_is (old.content name) read.0 content read.1.read.told told) read.2

  found_of : (bytes : List ℕ) → IsAnswered bytes → result ≡ holds → AreSuggested bytes sink sink_now
  found_of bytes answered zero =
      suggested_at_0 bytes result answered.text sink sink_now answered.whole zero answered.answer

  none_of : (bytes : List ℕ) → IsAnswered bytes → result ≡ fails → HasNoTypingByClaims bytes
  none_of bytes answered one = none_at_1 bytes result answered.text one answered.answer

  pub suggested_from : Outcome reclaimers request old new sink sink_now result
      → Suggested request old new sink sink_now result
  suggested_from outcome = record {
    read = λ name asked zero.
        let read = answered_read name asked (omega (arith, zero)) outcome in
        record { bytes = read.0; given = read.1; suggested = found_of read.0 read.2 zero };
    told = λ name bytes asked told zero.
        found_of bytes (answered_content name asked (omega (arith, zero)) bytes told outcome) zero;
    read_none = λ name asked one.
        let read = answered_read name asked (omega (arith, one)) outcome in
        record { bytes = read.0; given = read.1; none = none_of read.0 read.2 one };
    told_none = λ name bytes asked told one.
        none_of bytes (answered_content name asked (omega (arith, one)) bytes told outcome) one;
  }
