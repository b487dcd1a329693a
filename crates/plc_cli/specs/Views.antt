-- What the program's requests and a file that was loaded stand for.
use Rattle.std.specs.Prelude.{◌≡◌, ◌⊎◌, ℕ, ◌<◌, ◌≤◌, List, All}
use Rattle.plc_base.specs.Bounds.{most_copies}
use Rattle.plc_lex.specs.declared.token.Token.{Token}
use Rattle.plc_lex.specs.Spelling.{AreTokensOf}
use Rattle.plc_syntax.specs.Syntax.{kinds}
use Rattle.plc_at.specs.declared.claim.LocationClaim.{LocationClaim}
use Rattle.plc_at.specs.Claims.{SpellClaims, ClaimsStopAt, ClaimFits}
use Rattle.plc_parse.specs.declared.unit.Unit.{Unit as FileUnit}
use Rattle.plc_check.specs.declared.judged.Judged.{Judged}
use Rattle.plc_answers.specs.Claims.{claim_fault_text}
use Rattle.plc_sample.specs.Numbers.{sample_lines}
use Rattle.plc_vocabulary.specs.Fit.{Fits}
use Rattle.plc_cli.specs.declared.locating.Extension.{Extension}
use Rattle.plc_cli.specs.declared.locating.Extension.TheVariants.{Extended, Answered}
use Rattle.plc_cli.specs.declared.locating.ReadClaims.{ReadClaims}
use Rattle.plc_cli.specs.declared.locating.ReadClaims.TheVariants.{Claims, Refused}
use Rattle.plc_cli.specs.declared.words.Request.{Request as Asked}
use Rattle.plc_cli.specs.declared.words.Request.TheVariants as asked
use Rattle.plc_cli.specs.Locations.{AreNoTokens, AreNoClaims, IsAnsweredWith}
use Rattle.plc_cli.specs.Requests.{Request, Check, Certify, Print, Verify, Replay, Sample, Suggest, Locate}
use Rattle.plc_cli.specs.Statuses.{refused}

-- a request, with the bytes of its names
abbrev pub request_view : Asked → Request
request_view (asked.Check file) = Check file.now
request_view (asked.Certify file) = Certify file.now
request_view (asked.Print file) = Print file.now
request_view (asked.Verify file certificate) = Verify file.now certificate.now
request_view (asked.Replay file schedule reclaimer) = Replay file.now schedule.now reclaimer
request_view (asked.Sample copies line) = Sample copies line
request_view (asked.Suggest file) = Suggest file.now
request_view (asked.Locate file claims) = Locate file.now claims.now

-- the reclaimer of a request is one of so many, and the numbers of a sample are those that a sample may have
abbrev pub IsInRange : ℕ → Asked → Type 0
IsInRange count (asked.Check file) = Unit {0}
IsInRange count (asked.Certify file) = Unit {0}
IsInRange count (asked.Print file) = Unit {0}
IsInRange count (asked.Verify file certificate) = Unit {0}
IsInRange count (asked.Replay file schedule reclaimer) = reclaimer < count
IsInRange count (asked.Suggest file) = Unit {0}
IsInRange count (asked.Locate file claims) = Unit {0}
IsInRange count (asked.Sample copies line) = ((1 ≤ copies) × (copies ≤ most_copies)) × (line ≤ sample_lines copies)

-- the unit that was loaded
abbrev pub unit_of : Judged → FileUnit
unit_of j = record { file = j.flow.file; observer = j.observer; outline = j.unit_outline }

-- ---- claims of locations

-- tokens are no claims for this file, which is known at this place
pub record AreNoClaimsIn (j : Judged) (ts : List Token) (status : ℕ) (text : List ℕ) : Type 0 where
  pub place : ℕ
  pub stops : ClaimsStopAt j.flow j.observer (kinds ts) place
  pub status_is : status ≡ refused
  pub text_is : text ≡ claim_fault_text place

-- the claims that tokens spell, or the answer where they spell none
abbrev pub AreReadTokens : Judged → List Token → ReadClaims → Type 0
AreReadTokens j ts (Claims claims) =
    SpellClaims j.flow j.observer (kinds ts) claims × All (ClaimFits j.flow) claims
AreReadTokens j ts (Refused answer) = AreNoClaimsIn j ts answer.status answer.text.items

-- the bytes spell tokens, which spell these claims
pub record SpellFittingClaims (j : Judged) (second : List ℕ) (claims : List LocationClaim) : Type 0 where
  pub tokens : List Token
  pub spelled : AreTokensOf second tokens
  pub read : SpellClaims j.flow j.observer (kinds tokens) claims
  pub fit : All (ClaimFits j.flow) claims

-- the claims that bytes spell, or the answer where they spell none
abbrev pub AreReadClaims : Judged → List ℕ → ReadClaims → Type 0
AreReadClaims j second (Claims claims) = SpellFittingClaims j second claims
AreReadClaims j second (Refused answer) =
    AreNoTokens second answer.status answer.text.items ⊎ AreNoClaims j second answer.status answer.text.items

-- what is due: for claims with an outline, whatever they are answered by it and what is judged now; else the answer
abbrev pub IsExtension : (ℕ → List ℕ → Type 0) → Judged → Extension → Type 0
IsExtension IsDue now (Extended claims outline) =
    Fits now.flow outline
    × ((status : ℕ) (text : List ℕ) → IsAnsweredWith now outline claims status text → IsDue status text)
IsExtension IsDue now (Answered answer) = IsDue answer.status answer.text.items
