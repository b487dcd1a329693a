-- From what a call comes to, to completeness: where the contents are told and no count of the files rises, what is due
-- is due to the contents, or a content is too long.
use Rattle.std.proofs.Common.{◌≡◌, ◌≤◌, ◌<◌, inl, inr, ◌⊎◌, ℕ, List, [], ◌∷◌, length, Option, Some, None, refl, sym}
use Rattle.std.proofs.Common.{◌∙◌, subst, arith}
use Rattle.std.specs.Prelude.{◌≢◌, Contains, IfSome, IsSome, IsSomeAnd, slice_get}
use Rattle.std.proofs.lemmas.List.Elements.{All-contains}
use Rattle.plc_base.specs.FileSizes.{largest_file, largest_schedule, largest_certificate}
use Rattle.plc_outside.specs.Known.{KnownFiles, KnownSink}
use Rattle.plc_outside.specs.Outside.{Rose, Appends}
use Rattle.plc_outside.specs.Reading.{Reading}
use Rattle.plc_reclaim.specs.Meanings.{Meanings}
use Rattle.plc_answers.specs.Refusals.{read_too_long_text}
use Rattle.plc_cli.specs.Answer.{IsReplayOf, IsDueFor, IsWritten, Outcome}
use Rattle.plc_cli.specs.Certificates.{IsVerificationOf}
use Rattle.plc_cli.specs.Completeness.{files_of, AreTold, AreShort, NoneRose, IsAnswerOf, IsAnswered, IsToldTooLong}
use Rattle.plc_cli.specs.Completeness.{HasRoom, FillsRoom, Completeness, HonestRunsAreAnswered, HonestRunsFillTheRoom}
use Rattle.plc_cli.specs.Reads.{IsUnread, IsDueForFile, IsDueForPair}
use Rattle.plc_cli.specs.Locations.{IsLocationOf}
use Rattle.plc_cli.specs.Requests.{Request, Check, Certify, Print, Verify, Replay, Sample, Suggest, Locate}
use Rattle.plc_cli.specs.Statuses.{unread, unwritten, no_memory}
use Rattle.plc_cli.proofs.Statuses.{check_low, certify_low, print_low, verify_low, replay_low, sample_low, suggest_low}
use Rattle.plc_cli.proofs.Statuses.{locate_low}

-- ---- what is told of one file

-- what was read of a told content is the content
read_told : (told : Option (List ℕ)) (bytes : List ℕ) (Q : List ℕ → Type 0) → IsSome told →
    IfSome told (λ c. bytes ≡ c) → Q bytes → IsSomeAnd told Q
read_told None bytes Q some same q = absurd cc
read_told (Some c) bytes Q some same q = subst Q same q

-- what is known of a told content
some_and : (told : Option (List ℕ)) (Q : List ℕ → Type 0) → IsSome told → IfSome told Q → IsSomeAnd told Q
some_and None Q some q = absurd cc
some_and (Some c) Q some q = q

long_or_short : (told : Option (List ℕ)) (most : ℕ) → IsSomeAnd told (λ c. most < length c) →
    IfSome told (λ c. length c ≤ most) → ⊥
long_or_short None most long short = long
long_or_short (Some c) most long short = omega (arith, long, short)

-- ---- what is due is due to the contents

module _ (old new : KnownFiles) (status : ℕ) (text : List ℕ) where
  -- the file is too long, and so it's due to say
  record IsLong (file : List ℕ × ℕ) : Type 0 where
    pub long : IsSomeAnd (old.content file.0) (λ bytes. file.1 < length bytes)
    pub status_is : status ≡ unread
    pub text_is : text ≡ read_too_long_text

  -- the same of one of the files among the words
  abbrev IsOneLong : Option Request → Type 0
  IsOneLong request = (file : List ℕ × ℕ) × Contains (files_of request) file × IsLong file

  -- its content is told, and its count is what it was
  abbrev IsFine : List ℕ → Type 0
  IsFine name = IsSome (old.content name) × (new.faults name ≡ old.faults name)

  -- so is each file among the words
  abbrev AreFine : Option Request → Type 0
  AreFine request = (file : List ℕ × ℕ) → Contains (files_of request) file → IsFine file.0

  are_fine : (request : Option Request) → AreTold request old → NoneRose request old new → AreFine request
  are_fine request told kept file among = (
    All-contains (λ (f : List ℕ × ℕ). IsSome (old.content f.0)) (files_of request) file told among,
    All-contains (λ (f : List ℕ × ℕ). new.faults f.0 ≡ old.faults f.0) (files_of request) file kept among,
  )

  unread_is_long : (may : List ℕ → Type 0) (before : List Reading) (name : List ℕ) (most : ℕ) → IsFine name →
      IsUnread may old new before name most status text → IsLong (name, most)
  unread_is_long may before name most fine (inl failed) = absurd (omega (arith, failed.rose, fine.1))
  unread_is_long may before name most fine (inr long) = record {
    long = some_and (old.content name) (λ c. most < length c) fine.0 long.told;
    status_is = long.status_is;
    text_is = long.text_is;
  }

  -- both contents are told, and so answered
  abbrev AreAnswered : List ℕ → List ℕ → (List ℕ → List ℕ → Type 0) → Type 0
  AreAnswered name other Answers =
      IsSomeAnd (old.content name) (λ bytes. IsSomeAnd (old.content other) (λ more. Answers bytes more))

  -- the status of an answer is at most 3, so none of a read
  module _ (request : Option Request) (fine : AreFine request) where
    one_long : (may : List ℕ → Type 0) (before : List Reading) (name : List ℕ) (most : ℕ) →
        Contains (files_of request) (name, most) → IsUnread may old new before name most status text →
        IsOneLong request
    one_long may before name most among none =
        ((name, most), among, unread_is_long may before name most (fine (name, most) among) none)

    only_among : (name : List ℕ) → files_of request ≡ (name, largest_file) ∷ []
        → Contains (files_of request) (name, largest_file)
    only_among name are =
        subst (λ (fs : List (List ℕ × ℕ)). Contains fs (name, largest_file)) (sym are) (0, omega arith, refl)

    one_file : (name : List ℕ) (Answers : List ℕ → Type 0) → ((bytes : List ℕ) → Answers bytes → status ≤ 3) →
        files_of request ≡ (name, largest_file) ∷ [] → IsDueForFile old new name Answers status text →
        IsOneLong request ⊎ (IsSomeAnd (old.content name) Answers × (status ≤ 3))
    one_file name Answers low are (inl none) = inl (one_long _ _ name largest_file (only_among name are) none)
    one_file name Answers low are (inr due) =
        let told = (fine (name, largest_file) (only_among name are)).0 in
        inr (read_told (old.content name) due.0 Answers told due.1.read.told due.2, low due.0 due.2)

    two_files : (name other : List ℕ) (most : ℕ) (Answers : List ℕ → List ℕ → Type 0) →
        ((bytes more : List ℕ) → Answers bytes more → status ≤ 3) →
        Contains (files_of request) (name, largest_file) → Contains (files_of request) (other, most) →
        IsDueForPair old new name other most Answers status text →
        IsOneLong request ⊎ (AreAnswered name other Answers × (status ≤ 3))
    two_files name other most Answers low among after (inl (inl none)) =
        inl (one_long _ _ name largest_file among none)
    two_files name other most Answers low among after (inl (inr none)) =
        inl (one_long _ _ other most after none.unread)
    two_files name other most Answers low among after (inr due) =
        let told = (fine (name, largest_file) among).0 in
        let more = (fine (other, most) after).0 in
        let both = read_told (old.content other) due.1 (Answers due.0) more due.2.read_second.told due.3 in
        (inr (
          read_told (old.content name) due.0 (λ bytes. IsSomeAnd (old.content other) (λ more. Answers bytes more))
              told due.2.read.told both,
          low due.0 due.1 due.3,
        ))

  module _ (reclaimers : List Meanings) where
    -- the answer to the contents
    abbrev IsDue : Option Request → Type 0
    IsDue request = IsOneLong request ⊎ (IsAnswerOf reclaimers request old status text × (status ≤ 3))

    abbrev IsReplayed : List ℕ → List ℕ → Meanings → Type 0
    IsReplayed file schedule reclaimer =
        AreAnswered file schedule (λ bytes more. IsReplayOf reclaimer bytes more status text)

    replay_due : (file schedule : List ℕ) (number : ℕ) (reclaimer : Meanings) →
        slice_get reclaimers number ≡ Some reclaimer →
        IsOneLong (Some (Replay file schedule number)) ⊎ (IsReplayed file schedule reclaimer × (status ≤ 3)) →
        IsDue (Some (Replay file schedule number))
    replay_due file schedule number reclaimer there (inl long) = inl long
    replay_due file schedule number reclaimer there (inr answer) =
        inr (subst (λ (o : Option Meanings). IsSomeAnd o (IsReplayed file schedule)) (sym there) answer.0, answer.1)

    due_is : (request : Option Request) → AreFine request → IsDueFor reclaimers request old new status text →
        IsDue request
    due_is None fine refused = inr ((refused.status_is, refused.text_is), omega (arith, refused.status_is))
    due_is (Some (Check name)) fine due = one_file (Some (Check name)) fine name _ (check_low status text) refl due
    due_is (Some (Certify name)) fine due = one_file (Some (Certify name)) fine name _ (certify_low status text) refl due
    due_is (Some (Print name)) fine due = one_file (Some (Print name)) fine name _ (print_low status text) refl due
    due_is (Some (Verify name certificate)) fine due =
        two_files (Some (Verify name certificate)) fine name certificate largest_certificate
        (λ bytes more. IsVerificationOf bytes more status text)
        (verify_low status text) (0, omega arith, refl) (1, omega arith, refl) due
    due_is (Some (Replay file schedule number)) fine replay =
        replay_due file schedule number replay.reclaimer replay.there
        (two_files (Some (Replay file schedule number)) fine file schedule largest_schedule
        (λ bytes more. IsReplayOf replay.reclaimer bytes more status text)
        (replay_low status text replay.reclaimer) (0, omega arith, refl) (1, omega arith, refl) replay.due)
    due_is (Some (Sample k n)) fine sample = inr (sample.answer, sample_low status text k n sample.answer)
    due_is (Some (Suggest name)) fine due = one_file (Some (Suggest name)) fine name _ (suggest_low status text) refl due
    due_is (Some (Locate name claims)) fine due =
        two_files (Some (Locate name claims)) fine name claims largest_file
        (λ bytes more. IsLocationOf bytes more status text)
        (locate_low status text) (0, omega arith, refl) (1, omega arith, refl) due

-- ---- what is written

module _ (reclaimers : List Meanings) (request : Option Request) (old new : KnownFiles)
    (sink sink_now : KnownSink) (result : ℕ) where
  module _ (w : IsWritten reclaimers request old new sink sink_now result)
      (told : AreTold request old) (kept : NoneRose request old new) where
    abbrev Due : Type 0
    Due = IsDue old new w.status w.text reclaimers request

    due : Due
    due = due_is old new w.status w.text reclaimers request (are_fine old new w.status w.text request told kept) w.due

    none_long : AreShort request old → IsOneLong old new w.status w.text request → ⊥
    none_long short long =
        long_or_short (old.content long.0.0) long.0.1 long.2.long
        (All-contains (λ (f : List ℕ × ℕ). IfSome (old.content f.0) (λ bytes. length bytes ≤ f.1)) (files_of request)
        long.0 short long.1)

    whole_answer : result ≡ w.status → IsAnswerOf reclaimers request old w.status w.text →
        IsAnswered reclaimers request old sink sink_now result
    whole_answer is answer = record {
      text = w.text;
      due = subst (λ (s : ℕ). IsAnswerOf reclaimers request old s w.text) (sym is) answer;
      written = w.ends.whole is;
    }

    short_answered : AreShort request old → result ≡ w.status → Due →
        IsAnswered reclaimers request old sink sink_now result
    short_answered short is (inl long) = absurd (none_long short long)
    short_answered short is (inr answer) = whole_answer is answer.0

    answered : AreShort request old → (Rose sink.faults sink_now.faults → ⊥) →
        (result ≡ w.status) ⊎ ((result ≡ unwritten) ⊎ (result ≡ no_memory)) →
        IsAnswered reclaimers request old sink sink_now result ⊎ (result ≡ no_memory)
    answered short held (inl is) = inl (short_answered short is due)
    answered short held (inr (inl is)) = absurd (held (w.ends.failed is).rose)
    answered short held (inr (inr is)) = inr is

    fits : HasRoom reclaimers request old sink → Due → length w.text ≤ sink.room
    fits room (inl long) = subst (λ (t : List ℕ). length t ≤ sink.room) (sym long.2.text_is) room.long
    fits room (inr answer) = room.due w.status w.text answer.0

    fills : result ≡ unwritten → Due → FillsRoom reclaimers request old sink sink_now
    fills is (inl long) = record {
      text = w.text;
      due = inr long.2.text_is;
      longer = (w.ends.failed is).room;
      part = (w.ends.failed is).part;
      full = (w.ends.failed is).full;
    }
    fills is (inr answer) = record {
      text = w.text;
      due = inl (w.status, answer.0);
      longer = (w.ends.failed is).room;
      part = (w.ends.failed is).part;
      full = (w.ends.failed is).full;
    }

    whole_long : result ≡ unread → result ≡ w.status → Due → IsToldTooLong request old sink sink_now result
    whole_long is same (inl long) = record {
      file = long.0;
      among = long.1;
      long = long.2.long;
      status_is = is;
      written = subst (λ (t : List ℕ). Appends sink sink_now t) long.2.text_is (w.ends.whole same);
    }
    whole_long is same (inr answer) = absurd (omega (arith, is, same, answer.1))

    too_long : HasRoom reclaimers request old sink → (result ≡ unread) ⊎ (result ≡ unwritten) →
        (result ≡ w.status) ⊎ ((result ≡ unwritten) ⊎ (result ≡ no_memory)) →
        IsToldTooLong request old sink sink_now result
    too_long room (inl is) (inl same) = whole_long is same due
    too_long room (inl is) (inr (inl other)) = absurd (omega (arith, is, other))
    too_long room (inl is) (inr (inr other)) = absurd (omega (arith, is, other))
    too_long room (inr is) only = absurd (omega (arith, (w.ends.failed is).room, fits room due))

    answered_with_room : HasRoom reclaimers request old sink → result ≢ unread → result ≢ no_memory → Due →
        (result ≡ w.status) ⊎ ((result ≡ unwritten) ⊎ (result ≡ no_memory)) →
        IsAnswered reclaimers request old sink sink_now result
    answered_with_room room not_four not_six (inl long) (inl is) = absurd (not_four (is ∙ long.2.status_is))
    answered_with_room room not_four not_six (inr answer) (inl is) = whole_answer is answer.0
    answered_with_room room not_four not_six known (inr (inl is)) =
        absurd (omega (arith, (w.ends.failed is).room, fits room known))
    answered_with_room room not_four not_six known (inr (inr is)) = absurd (not_six is)

  neither : result ≡ no_memory → (result ≡ unread) ⊎ (result ≡ unwritten) → ⊥
  neither six (inl is) = omega (arith, six, is)
  neither six (inr is) = omega (arith, six, is)

  pub completeness_of : Outcome reclaimers request old new sink sink_now result →
      Completeness reclaimers request old new sink sink_now result
  completeness_of (inl none) = record {
    answered = λ told kept short held. inr none.0;
    no_room = λ told kept is. absurd (neither none.0 (inr is));
    with_room = λ told kept room. record {
      only_too_long = λ is. absurd (neither none.0 is);
      answered = λ not_four not_six. absurd (not_six none.0);
    };
  }
  completeness_of (inr w) = record {
    answered = λ told kept short held. answered w told kept short held w.ends.only;
    no_room = λ told kept is. fills w told kept is (due w told kept);
    with_room = λ told kept room. record {
      only_too_long = λ is. too_long w told kept room is w.ends.only;
      answered = λ not_four not_six.
          answered_with_room w told kept room not_four not_six (due w told kept) w.ends.only;
    };
  }

-- ---- files that never fail, and a sink with room

pub honestly : HonestRunsAreAnswered
honestly reclaimers request old new sink sink_now result complete room =
    complete.with_room (λ k d low. refl) (λ k d low. refl) room

pub filling : HonestRunsFillTheRoom
filling reclaimers request old new sink sink_now result complete is =
    complete.no_room (λ k d low. refl) (λ k d low. refl) is
