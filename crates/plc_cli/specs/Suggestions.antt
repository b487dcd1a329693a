-- What `suggest` answers, and what its answers say.
use Rattle.std.specs.Prelude.{◌≡◌, ◌⊎◌, ◌+◌, ◌<◌, ◌≤◌, ℕ, List, length, Option, Some}
use Rattle.plc_outside.specs.Known.{KnownFiles, KnownSink}
use Rattle.plc_outside.specs.Outside.{Appends}
use Rattle.plc_parse.specs.declared.unit.Unit.{Unit as FileUnit}
use Rattle.plc_flow.specs.Lowering.{flow_of}
use Rattle.plc_flow.specs.Skeleton.{skeleton_of}
use Rattle.plc_check.specs.declared.judged.Judged.{Judged}
use Rattle.plc_check.specs.Loading.{IsFileOf}
use Rattle.plc_check.specs.Answered.{judged_of}
use Rattle.plc_suggest.specs.declared.spot.Spot.{Spot}
use Rattle.plc_suggest.specs.declared.suggestion.Suggestion.{Suggestion}
use Rattle.plc_suggest.specs.declared.suggestion.Suggestion.TheVariants.{Found, Insufficient}
use Rattle.plc_suggest.specs.Spots.{spots_of}
use Rattle.plc_suggest.specs.Needed.{IsLeastTypable, IsNeverTypable}
use Rattle.plc_suggest.specs.Suggestions.{IsSuggestion, most_spots}
use Rattle.plc_answers.specs.Suggestions.{suggested_text, insufficient_text, spots_limit_text}
use Rattle.plc_cli.specs.Files.{IsAnsweredFile, IsTold}
use Rattle.plc_cli.specs.Reads.{IsGivenFile}
use Rattle.plc_cli.specs.Requests.{Request, Suggest}
use Rattle.plc_cli.specs.Statuses.{holds, fails, refused}

-- ---- the answer

-- claims that are found hold, and where none are enough that fails
abbrev pub suggestion_status : Suggestion → ℕ
suggestion_status (Found spots) = holds
suggestion_status (Insufficient step prim fault) = fails

-- each suggestion as it is printed
abbrev pub suggestion_text : Judged → Suggestion → List ℕ
suggestion_text j (Found spots) = suggested_text j.flow spots
suggestion_text j (Insufficient step prim fault) = insufficient_text j.flow step.0 prim fault

-- how many spots there are
abbrev pub spot_count : Judged → ℕ
spot_count j = length (spots_of (skeleton_of j.flow))

-- there are more than may be tried
pub record HasTooManySpots (j : Judged) (status : ℕ) (text : List ℕ) : Type 0 where
  pub many : most_spots < spot_count j
  pub status_is : status ≡ refused
  pub text_is : text ≡ spots_limit_text (most_spots + 1)

-- there are no more, and a right suggestion is the answer
pub record IsSuggestedAs (j : Judged) (status : ℕ) (text : List ℕ) : Type 0 where
  pub few : spot_count j ≤ most_spots
  pub answer : IsTold (IsSuggestion j.observer (skeleton_of j.flow)) suggestion_status (suggestion_text j) status text

-- what is answered for a file that was loaded
abbrev pub IsSuggestionAnswered : Judged → ℕ → List ℕ → Type 0
IsSuggestionAnswered j status text = HasTooManySpots j status text ⊎ IsSuggestedAs j status text

-- what `suggest` answers to bytes: the file's refusals go first
abbrev pub IsSuggestionOf : List ℕ → ℕ → List ℕ → Type 0
IsSuggestionOf bytes status text = IsAnsweredFile (λ u. IsSuggestionAnswered (judged_of u)) bytes status text

-- ---- what it says

-- the bytes spell a program, and these spots were written: marked by them it has a typing, and marked by any of them
-- without at least one it has none
pub record AreSuggested (bytes : List ℕ) (sink sink_now : KnownSink) : Type 0 where
  pub unit : FileUnit
  pub spelled : IsFileOf bytes unit
  pub spots : List Spot
  pub least : IsLeastTypable unit.observer (skeleton_of (flow_of unit.file)) spots
  pub written : Appends sink sink_now (suggested_text (flow_of unit.file) spots)

-- the bytes spell a program that has no typing, whatever spots it is marked by
pub record HasNoTypingByClaims (bytes : List ℕ) : Type 0 where
  pub unit : FileUnit
  pub spelled : IsFileOf bytes unit
  pub never : IsNeverTypable unit.observer (skeleton_of (flow_of unit.file))

-- the one read of this call, of the file of this name, gave such bytes
pub record AreSuggestedForRead (old new : KnownFiles) (name : List ℕ) (sink sink_now : KnownSink) : Type 0 where
  pub bytes : List ℕ
  pub given : IsGivenFile old new name bytes
  pub suggested : AreSuggested bytes sink sink_now

-- the one read gave bytes of a program without such a typing
pub record HasReadNoTyping (old new : KnownFiles) (name : List ℕ) : Type 0 where
  pub bytes : List ℕ
  pub given : IsGivenFile old new name bytes
  pub none : HasNoTypingByClaims bytes

-- where the words ask for suggestions: by the bytes that the read gave, and by the content where that is told
pub record Suggested (request : Option Request) (old new : KnownFiles) (sink sink_now : KnownSink) (result : ℕ)
    : Type 0 where
  pub read : (name : List ℕ) → request ≡ Some (Suggest name) → result ≡ holds
      → AreSuggestedForRead old new name sink sink_now
  pub told : (name bytes : List ℕ) → request ≡ Some (Suggest name) → old.content name ≡ Some bytes → result ≡ holds
      → AreSuggested bytes sink sink_now
  pub read_none : (name : List ℕ) → request ≡ Some (Suggest name) → result ≡ fails → HasReadNoTyping old new name
  pub told_none : (name bytes : List ℕ) → request ≡ Some (Suggest name) → old.content name ≡ Some bytes
      → result ≡ fails → HasNoTypingByClaims bytes
