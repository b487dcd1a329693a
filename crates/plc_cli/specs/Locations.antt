-- What `locate` answers, and what a 0 of it says.
use Rattle.std.specs.Prelude.{◌≡◌, ◌⊎◌, ◌+◌, ◌<◌, ◌≤◌, ℕ, List, length, Option, Some}
use Rattle.plc_base.specs.FileSizes.{largest_file}
use Rattle.plc_base.specs.declared.limits.What1.{What1}
use Rattle.plc_base.specs.declared.limits.What1.TheVariants as limits
use Rattle.plc_outside.specs.Known.{KnownFiles}
use Rattle.plc_lex.specs.declared.token.Token.{Token}
use Rattle.plc_lex.specs.declared.fault.LexFault.{LexFault}
use Rattle.plc_lex.specs.Spelling.{AreTokensOf}
use Rattle.plc_syntax.specs.Syntax.{kinds}
use Rattle.plc_parse.specs.declared.unit.Unit.{Unit as FileUnit}
use Rattle.plc_flow.specs.declared.flow.Flow.{Flow}
use Rattle.plc_flow.specs.Lowering.{flow_of}
use Rattle.plc_flow.specs.Skeleton.{skeleton_of}
use Rattle.plc_logic.specs.declared.clause.Outline.{Outline}
use Rattle.plc_type.specs.declared.env.Env.{Env}
use Rattle.plc_xfer.specs.declared.fault.TypeFault.{TypeFault}
use Rattle.plc_xfer.specs.Typings.{IsStuckAt}
use Rattle.plc_oblig.specs.Outlines.{HasFewObligations, HasSmallSets}
use Rattle.plc_run.specs.Run.{NeverRaces}
use Rattle.plc_safety.specs.Located.{ClaimsAreTrue}
use Rattle.plc_at.specs.declared.claim.LocationClaim.{LocationClaim}
use Rattle.plc_at.specs.Claims.{SpellClaims, ClaimsStopAt}
use Rattle.plc_at.specs.Extended.{AreLocated, IsFirstUnlocated, extended, most_items}
use Rattle.plc_check.specs.declared.judged.Judged.{Judged}
use Rattle.plc_check.specs.declared.verdict.Verdict.{Verdict}
use Rattle.plc_check.specs.declared.verdict.Verdict.TheVariants.{Safe, Untyped, Unproved}
use Rattle.plc_check.specs.Loading.{IsFileOf}
use Rattle.plc_check.specs.Answered.{HasLexFault, judged_of}
use Rattle.plc_check.specs.Outlined.{outlined, IsOutlineLimit}
use Rattle.plc_check.specs.Strongest.{IsStrongestTyping}
use Rattle.plc_check.specs.Verdicts.{IsVerdictOn}
use Rattle.plc_answers.specs.Claims.{claim_fault_text, unlocated_text, located_text}
use Rattle.plc_answers.specs.Refusals.{lex_fault_text, limit_text}
use Rattle.plc_answers.specs.Untyped.{untyped_text}
use Rattle.plc_cli.specs.Files.{IsAnsweredFile, IsTold}
use Rattle.plc_cli.specs.Reads.{IsGivenPair}
use Rattle.plc_cli.specs.Requests.{Request, Locate}
use Rattle.plc_cli.specs.Statuses.{holds, fails, refused}
use Rattle.plc_cli.specs.Verdicts.{verdict_status, verdict_text}

-- ---- claims that were read

-- the file has no typing, as `check` answers it
pub record IsUntypedAs (j : Judged) (status : ℕ) (text : List ℕ) : Type 0 where
  pub step : ℕ
  pub prim : ℕ
  pub fault : TypeFault
  pub stuck : IsStuckAt j.observer (skeleton_of j.flow) step prim fault
  pub status_is : status ≡ fails
  pub text_is : text ≡ untyped_text j.flow step prim fault

-- the first claim that isn't located under the strongest typing
pub record IsUnlocatedAs (j : Judged) (claims : List LocationClaim) (status : ℕ) (text : List ℕ) : Type 0 where
  pub typing : List Env
  pub strongest : IsStrongestTyping j typing
  pub claim : ℕ
  pub first : IsFirstUnlocated j.flow j.observer typing claims claim
  pub status_is : status ≡ fails
  pub text_is : text ≡ unlocated_text claim

-- the file's outline, extended by the claims under a typing
abbrev pub extended_of : Judged → List Env → List LocationClaim → Outline
extended_of j typing claims = extended j.flow j.observer typing claims j.unit_outline

-- each claim is located, and the extended outline has more items than it may have
pub record HasTooManyItems (j : Judged) (claims : List LocationClaim) (status : ℕ) (text : List ℕ) : Type 0 where
  pub typing : List Env
  pub strongest : IsStrongestTyping j typing
  pub located : AreLocated j.flow j.observer typing claims
  pub many : most_items < length (extended_of j typing claims).items
  pub status_is : status ≡ refused
  pub text_is : text ≡ limit_text limits.Items (most_items + 1)

-- each claim is located, and the extended outline has no more items than it may have
pub record AreExtended (j : Judged) (claims : List LocationClaim) (typing : List Env) : Type 0 where
  pub strongest : IsStrongestTyping j typing
  pub located : AreLocated j.flow j.observer typing claims
  pub few : length (extended_of j typing claims).items ≤ most_items

-- the line of claims that are proved, or the verdict's text
abbrev pub located_verdict_text : Judged → List LocationClaim → Verdict → List ℕ
located_verdict_text j claims (Safe typing count) = located_text (length claims) count
located_verdict_text j claims (Untyped step prim fault) = verdict_text j (Untyped step prim fault)
located_verdict_text j claims (Unproved obligation set model) = verdict_text j (Unproved obligation set model)

-- an outline passes a limit, which is told
pub record IsOutlineLimitTold (flow : Flow) (outline : Outline) (status : ℕ) (text : List ℕ) : Type 0 where
  pub what : What1
  pub count : ℕ
  pub limit : IsOutlineLimit flow outline what count
  pub status_is : status ≡ refused
  pub text_is : text ≡ limit_text what count

-- the outline of a file is within its limits, and any verdict is told that is right on the file
pub record IsVerdictTold (j : Judged) (claims : List LocationClaim) (status : ℕ) (text : List ℕ) : Type 0 where
  pub few : HasFewObligations j.flow j.unit_outline
  pub small : HasSmallSets j.flow j.unit_outline
  pub answer : IsTold (IsVerdictOn j) verdict_status (located_verdict_text j claims) status text

-- what is answered to claims by an outline that says what they need
abbrev pub IsAnsweredWith : Judged → Outline → List LocationClaim → ℕ → List ℕ → Type 0
IsAnsweredWith j outline claims status text =
    IsOutlineLimitTold j.flow outline status text ⊎ IsVerdictTold (outlined j outline) claims status text

-- the outline that is extended by the claims under the strongest typing answers them
pub record AreAnsweredExtended (j : Judged) (claims : List LocationClaim) (status : ℕ) (text : List ℕ) : Type 0 where
  pub typing : List Env
  pub extends : AreExtended j claims typing
  pub answer : IsAnsweredWith j (extended_of j typing claims) claims status text

-- what is answered to claims: the first of these
abbrev pub AreClaimsAnswered : Judged → List LocationClaim → ℕ → List ℕ → Type 0
AreClaimsAnswered j claims status text =
    IsUntypedAs j status text ⊎ IsUnlocatedAs j claims status text ⊎ HasTooManyItems j claims status text
    ⊎ AreAnsweredExtended j claims status text

-- ---- the bytes of claims

-- they spell no tokens, and this is why
pub record AreNoTokens (second : List ℕ) (status : ℕ) (text : List ℕ) : Type 0 where
  pub fault : LexFault
  pub has : HasLexFault second fault
  pub status_is : status ≡ refused
  pub text_is : text ≡ lex_fault_text fault

-- their tokens are no claims for this file, which is known at this place
pub record AreNoClaims (j : Judged) (second : List ℕ) (status : ℕ) (text : List ℕ) : Type 0 where
  pub tokens : List Token
  pub spelled : AreTokensOf second tokens
  pub place : ℕ
  pub stops : ClaimsStopAt j.flow j.observer (kinds tokens) place
  pub status_is : status ≡ refused
  pub text_is : text ≡ claim_fault_text place

-- they are claims, which are answered
pub record AreClaims (j : Judged) (second : List ℕ) (status : ℕ) (text : List ℕ) : Type 0 where
  pub tokens : List Token
  pub spelled : AreTokensOf second tokens
  pub claims : List LocationClaim
  pub read : SpellClaims j.flow j.observer (kinds tokens) claims
  pub answer : AreClaimsAnswered j claims status text

-- what is answered to the bytes of claims for a file that was loaded
abbrev pub IsLocationAnswered : Judged → List ℕ → ℕ → List ℕ → Type 0
IsLocationAnswered j second status text =
    AreNoTokens second status text ⊎ AreNoClaims j second status text ⊎ AreClaims j second status text

-- what `locate` answers to the bytes of a file and of claims; the file's refusals go first
abbrev pub IsLocationOf : List ℕ → List ℕ → ℕ → List ℕ → Type 0
IsLocationOf bytes second status text =
    IsAnsweredFile (λ u. IsLocationAnswered (judged_of u) second) bytes status text

-- ---- what a 0 says

-- the first bytes spell a program and the second claims for it; no run of the program has a pointer race or a second
-- retire, and in every state of every run each claim is true
pub record IsLocatedProgram (bytes second : List ℕ) : Type 0 where
  pub unit : FileUnit
  pub spelled : IsFileOf bytes unit
  pub tokens : List Token
  pub spelled_second : AreTokensOf second tokens
  pub claims : List LocationClaim
  pub read : SpellClaims (flow_of unit.file) unit.observer (kinds tokens) claims
  pub safe : NeverRaces (flow_of unit.file) unit.observer
  pub true_claims : ClaimsAreTrue (flow_of unit.file) unit.observer claims

-- the two reads of this call, of the files of these names, gave such bytes
pub record IsLocatedPair (old new : KnownFiles) (name claims : List ℕ) : Type 0 where
  pub bytes : List ℕ
  pub second : List ℕ
  pub given : IsGivenPair old new name claims largest_file bytes second
  pub located : IsLocatedProgram bytes second

-- where the words ask to locate: by the bytes that the reads gave, and by the contents where these are told
pub record LocatedRuns (request : Option Request) (old new : KnownFiles) (result : ℕ) : Type 0 where
  pub read : (name claims : List ℕ) → request ≡ Some (Locate name claims) → result ≡ holds
      → IsLocatedPair old new name claims
  pub told : (name claims bytes second : List ℕ) → request ≡ Some (Locate name claims)
      → old.content name ≡ Some bytes → old.content claims ≡ Some second → result ≡ holds
      → IsLocatedProgram bytes second
