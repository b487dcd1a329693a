-- Completeness: where the outside has no fault, the answer is due to the contents of the files alone.
use Rattle.std.specs.Prelude.{◌≡◌, ◌≢◌, ◌⊎◌, ◌<◌, ◌≤◌, ℕ, List, [], ◌∷◌, length, slice_get, All, Contains, Option, None}
use Rattle.std.specs.Prelude.{Some, IsSome, IfSome, IsSomeAnd}
use Rattle.plc_base.specs.FileSizes.{largest_file, largest_schedule, largest_certificate}
use Rattle.plc_outside.specs.FixedBytes as fixed
use Rattle.plc_outside.specs.HonestFiles as honest
use Rattle.plc_outside.specs.Known.{KnownFiles, KnownSink}
use Rattle.plc_outside.specs.Outside.{Rose, Appends, AppendsPart}
use Rattle.plc_reclaim.specs.Meanings.{Meanings}
use Rattle.plc_answers.specs.Refusals.{read_too_long_text, words_refused_text}
use Rattle.plc_cli.specs.Answer.{IsReplayOf}
use Rattle.plc_cli.specs.Certificates.{IsCertificateOf, IsVerificationOf}
use Rattle.plc_cli.specs.Files.{IsAnswerTo, IsPrintOf}
use Rattle.plc_cli.specs.Locations.{IsLocationOf}
use Rattle.plc_cli.specs.Requests.{Request, Check, Certify, Print, Verify, Replay, Sample, Suggest, Locate}
use Rattle.plc_cli.specs.Samples.{IsSampleAnswer}
use Rattle.plc_cli.specs.Suggestions.{IsSuggestionOf}
use Rattle.plc_cli.specs.Statuses.{bad_words, unread, unwritten, no_memory}

-- ---- the files among the words

-- their names, each with the most bytes that the file may have
abbrev pub files_of : Option Request → List (List ℕ × ℕ)
files_of None = []
files_of (Some (Check name)) = (name, largest_file) ∷ []
files_of (Some (Certify name)) = (name, largest_file) ∷ []
files_of (Some (Print name)) = (name, largest_file) ∷ []
files_of (Some (Verify name certificate)) = (name, largest_file) ∷ (certificate, largest_certificate) ∷ []
files_of (Some (Replay file schedule number)) = (file, largest_file) ∷ (schedule, largest_schedule) ∷ []
files_of (Some (Sample k n)) = []
files_of (Some (Suggest name)) = (name, largest_file) ∷ []
files_of (Some (Locate name claims)) = (name, largest_file) ∷ (claims, largest_file) ∷ []

-- the contents are told
abbrev pub AreTold : Option Request → KnownFiles → Type 0
AreTold request files = All (λ file. IsSome (files.content file.0)) (files_of request)

-- no told content is too long
abbrev pub AreShort : Option Request → KnownFiles → Type 0
AreShort request files = All (λ file. IfSome (files.content file.0) (λ bytes. length bytes ≤ file.1)) (files_of request)

-- the count of no file rose
abbrev pub NoneRose : Option Request → KnownFiles → KnownFiles → Type 0
NoneRose request old new = All (λ file. new.faults file.0 ≡ old.faults file.0) (files_of request)

-- ---- the answer to contents

-- the status and the text that are due to the contents, which are told; words of no listed form are refused
abbrev pub IsAnswerOf : List Meanings → Option Request → KnownFiles → ℕ → List ℕ → Type 0
IsAnswerOf reclaimers None files status text = (status ≡ bad_words) × (text ≡ words_refused_text)
IsAnswerOf reclaimers (Some (Check name)) files status text =
    IsSomeAnd (files.content name) (λ bytes. IsAnswerTo bytes status text)
IsAnswerOf reclaimers (Some (Certify name)) files status text =
    IsSomeAnd (files.content name) (λ bytes. IsCertificateOf bytes status text)
IsAnswerOf reclaimers (Some (Print name)) files status text =
    IsSomeAnd (files.content name) (λ bytes. IsPrintOf bytes status text)
IsAnswerOf reclaimers (Some (Verify name certificate)) files status text =
    IsSomeAnd (files.content name) (λ bytes. IsSomeAnd (files.content certificate)
    (λ second. IsVerificationOf bytes second status text))
IsAnswerOf reclaimers (Some (Replay file schedule number)) files status text =
    IsSomeAnd (slice_get reclaimers number) (λ reclaimer. IsSomeAnd (files.content file)
    (λ bytes. IsSomeAnd (files.content schedule) (λ second. IsReplayOf reclaimer bytes second status text)))
IsAnswerOf reclaimers (Some (Sample k n)) files status text = IsSampleAnswer k n status text
IsAnswerOf reclaimers (Some (Suggest name)) files status text =
    IsSomeAnd (files.content name) (λ bytes. IsSuggestionOf bytes status text)
IsAnswerOf reclaimers (Some (Locate name claims)) files status text =
    IsSomeAnd (files.content name) (λ bytes. IsSomeAnd (files.content claims)
    (λ second. IsLocationOf bytes second status text))

-- the result is the status that is due, and the due text was written
pub record IsAnswered (reclaimers : List Meanings) (request : Option Request) (files : KnownFiles)
    (sink sink_now : KnownSink) (result : ℕ) : Type 0 where
  pub text : List ℕ
  pub due : IsAnswerOf reclaimers request files result text
  pub written : Appends sink sink_now text

-- the content of a file among the words is too long, and so it was written
pub record IsToldTooLong (request : Option Request) (files : KnownFiles) (sink sink_now : KnownSink) (result : ℕ)
    : Type 0 where
  pub file : List ℕ × ℕ
  pub among : Contains (files_of request) file
  pub long : IsSomeAnd (files.content file.0) (λ bytes. file.1 < length bytes)
  pub status_is : result ≡ unread
  pub written : Appends sink sink_now read_too_long_text

-- ---- where it is given

-- the sink has room for `read too long`, and for whatever is due to the contents
pub record HasRoom (reclaimers : List Meanings) (request : Option Request) (files : KnownFiles) (sink : KnownSink)
    : Type 0 where
  pub long : length read_too_long_text ≤ sink.room
  pub due : (status : ℕ) (text : List ℕ) → IsAnswerOf reclaimers request files status text → length text ≤ sink.room

-- it lacked the room for a text that is to be written, one that is due to the contents or `read too long`: it took a
-- proper beginning of that text, and has no room left
pub record FillsRoom (reclaimers : List Meanings) (request : Option Request) (files : KnownFiles)
    (sink sink_now : KnownSink) : Type 0 where
  pub text : List ℕ
  pub due : ((status : ℕ) × IsAnswerOf reclaimers request files status text) ⊎ (text ≡ read_too_long_text)
  pub longer : sink.room < length text
  pub part : AppendsPart sink sink_now text
  pub full : sink_now.room ≡ 0

-- The status with such a room: 4 and 5 come only as `read too long`, and with each status but 4 and 6 what is due to
-- the contents is answered.
pub record EndsWithRoom (reclaimers : List Meanings) (request : Option Request) (files : KnownFiles)
    (sink sink_now : KnownSink) (result : ℕ) : Type 0 where
  pub only_too_long : (result ≡ unread) ⊎ (result ≡ unwritten) → IsToldTooLong request files sink sink_now result
  pub answered : result ≢ unread → result ≢ no_memory → IsAnswered reclaimers request files sink sink_now result

-- All for words of any form, where the contents are told and no count of the files among them rises.
pub record Completeness (reclaimers : List Meanings) (request : Option Request) (old new : KnownFiles)
    (sink sink_now : KnownSink) (result : ℕ) : Type 0 where
  -- where no content is too long, and the sink's count neither rises nor stands at its last value, the status and the
  -- text are those due to the contents, or the status is 6
  pub answered : AreTold request old → NoneRose request old new → AreShort request old
      → (Rose sink.faults sink_now.faults → ⊥)
      → IsAnswered reclaimers request old sink sink_now result ⊎ (result ≡ no_memory)
  -- 5 comes only where the sink lacks the room for what is written, and took what it had room for
  pub no_room : AreTold request old → NoneRose request old new → result ≡ unwritten
      → FillsRoom reclaimers request old sink sink_now
  -- where the sink has room, 4 and 5 come only as `read too long`
  pub with_room : AreTold request old → NoneRose request old new → HasRoom reclaimers request old sink
      → EndsWithRoom reclaimers request old sink sink_now result

-- Over `HonestFiles` and a `FixedSink` with room, the statuses 4 and 5 come only as `read too long`, and with each
-- other status but 6 what is due to the contents is answered.
abbrev pub HonestRunsAreAnswered : Type 0
HonestRunsAreAnswered =
    (reclaimers : List Meanings) (request : Option Request) (old new : honest.HonestlyStored)
    (sink sink_now : fixed.FixedBytes) (result : ℕ)
    → Completeness reclaimers request (honest.known_of old) (honest.known_of new)
    (fixed.known_of sink) (fixed.known_of sink_now) result
    → HasRoom reclaimers request (honest.known_of old) (fixed.known_of sink)
    → EndsWithRoom reclaimers request (honest.known_of old) (fixed.known_of sink) (fixed.known_of sink_now) result

-- Over `HonestFiles` and a `FixedSink`, whatever its room, 5 comes only where what was written fills it, as a proper
-- beginning of what is due to the contents, or of `read too long`.
abbrev pub HonestRunsFillTheRoom : Type 0
HonestRunsFillTheRoom =
    (reclaimers : List Meanings) (request : Option Request) (old new : honest.HonestlyStored)
    (sink sink_now : fixed.FixedBytes) (result : ℕ)
    → Completeness reclaimers request (honest.known_of old) (honest.known_of new)
    (fixed.known_of sink) (fixed.known_of sink_now) result
    → result ≡ unwritten
    → FillsRoom reclaimers request (honest.known_of old) (fixed.known_of sink) (fixed.known_of sink_now)
