-- How bytes are answered: with what is judged of the file that they spell, or with their fault.
use Rattle.std.specs.Prelude.{◌≡◌, ◌≢◌, ◌⊎◌, ℕ, ◌<◌, ◌+◌, List, length, get_or, Option, Some, None, Result, Ok, Err}
use Rattle.plc_base.specs.Limits.{most}
use Rattle.plc_base.specs.declared.limits.What1.{What1}
use Rattle.plc_base.specs.declared.limits.What1.TheVariants as limits
use Rattle.plc_lex.specs.declared.token.Token.{Token}
use Rattle.plc_lex.specs.declared.fault.LexFault.{LexFault}
use Rattle.plc_lex.specs.declared.fault.LexFault.TheVariants as lex
use Rattle.plc_lex.specs.Spelling.{AreTokensOf}
use Rattle.plc_lex.specs.Stops.{line_feeds}
use Rattle.plc_lex.specs.Refused.{StopsWith}
use Rattle.plc_scope.specs.declared.fault.ParseFault.{ParseFault}
use Rattle.plc_scope.specs.declared.fault.ParseFault.TheVariants as parse
use Rattle.plc_parse.specs.declared.unit.Unit.{Unit as FileUnit}
use Rattle.plc_parse.specs.Units.{lines_of, IsUnitOf}
use Rattle.plc_parse.specs.Faults.{IsFaultOf}
use Rattle.plc_flow.specs.Lowering.{made_of, flow_of, most_points}
use Rattle.plc_oblig.specs.Obligations.{obligations}
use Rattle.plc_oblig.specs.Outlines.{HasFewObligations, HasLargeSet}
use Rattle.plc_auto.specs.Schemes.{schemes_of}
use Rattle.plc_check.specs.declared.judged.Judged.{Judged}
use Rattle.plc_check.specs.declared.judged.LoadFault.{LoadFault}
use Rattle.plc_check.specs.declared.judged.LoadFault.TheVariants as faults
use Rattle.plc_check.specs.Loading.{SpellsUnit, IsFileOf}

-- what is judged of a unit
abbrev pub judged_of : FileUnit → Judged
judged_of u = record {
  unit_outline = u.outline;
  observer = u.observer;
  schemes = schemes_of u.observer;
  flow = flow_of u.file;
}

-- ---- refusals

-- the bytes stop spelling tokens with this fault
pub record HasLexFault (bytes : List ℕ) (fault : LexFault) : Type 0 where
  pub stops : StopsWith 0 bytes fault
  pub other : fault ≢ lex.Memory

-- the place of a fault among the tokens; limits are told without one
abbrev pub place_of : ParseFault → Option ℕ
place_of (parse.Syntax at) = Some at
place_of (parse.Undeclared at) = Some at
place_of (parse.Duplicate at) = Some at
place_of (parse.WrongSort at) = Some at
place_of (parse.NoSuchCall at) = Some at
place_of (parse.Limit what count) = None
place_of parse.Memory = None

-- the line of a place: that of its token, and after the last token that of the end of the bytes
abbrev pub line_of : List ℕ → List Token → ℕ → ℕ
line_of bytes tokens place = get_or (lines_of tokens) place (1 + line_feeds bytes)

-- the bytes spell tokens that have this fault at a place, on this line
pub record HasParseFault (bytes : List ℕ) (fault : ParseFault) (line : ℕ) : Type 0 where
  pub tokens : List Token
  pub spelled : AreTokensOf bytes tokens
  pub is_fault : IsFaultOf tokens fault
  pub place : ℕ
  pub placed : place_of fault ≡ Some place
  pub line_is : line ≡ line_of bytes tokens place

-- the bytes spell tokens that pass this limit
pub record PassesLimit (bytes : List ℕ) (what : What1) (count : ℕ) : Type 0 where
  pub tokens : List Token
  pub spelled : AreTokensOf bytes tokens
  pub is_fault : IsFaultOf tokens (parse.Limit what count)

-- the bytes spell a unit whose flow would have more points than it may
pub record HasTooManyPoints (bytes : List ℕ) (what : What1) (count : ℕ) : Type 0 where
  pub tokens : List Token
  pub spelled : AreTokensOf bytes tokens
  pub unit : FileUnit
  pub of_tokens : IsUnitOf tokens unit
  pub many : most_points < (made_of unit.file).points
  pub what_is : what ≡ limits.Points
  pub count_is : count ≡ most_points + 1

-- the bytes spell a unit whose outline has more obligations than it may
pub record HasTooManyObligations (bytes : List ℕ) (what : What1) (count : ℕ) : Type 0 where
  pub tokens : List Token
  pub unit : FileUnit
  pub spells : SpellsUnit bytes tokens unit
  pub many : most limits.Obligations < length (obligations (flow_of unit.file) unit.outline)
  pub what_is : what ≡ limits.Obligations
  pub count_is : count ≡ most limits.Obligations + 1

-- the bytes spell a unit whose outline has no more, but the ground set of one has more clauses than it may
pub record HasTooManyClauses (bytes : List ℕ) (what : What1) (count : ℕ) : Type 0 where
  pub tokens : List Token
  pub unit : FileUnit
  pub spells : SpellsUnit bytes tokens unit
  pub few : HasFewObligations (flow_of unit.file) unit.outline
  pub many : HasLargeSet (flow_of unit.file) unit.outline
  pub what_is : what ≡ limits.Clauses
  pub count_is : count ≡ most limits.Clauses + 1

-- the limit that is passed: by the tokens, or else by the points, by the obligations or by the clauses of a ground set
abbrev pub HasLimitFault : List ℕ → What1 → ℕ → Type 0
HasLimitFault bytes what count =
    PassesLimit bytes what count ⊎ HasTooManyPoints bytes what count
    ⊎ HasTooManyObligations bytes what count ⊎ HasTooManyClauses bytes what count

-- why bytes are refused; memory may run out anywhere
abbrev pub HasFault : List ℕ → LoadFault → Type 0
HasFault bytes (faults.Lex fault) = HasLexFault bytes fault
HasFault bytes (faults.Parse fault line) = HasParseFault bytes fault line
HasFault bytes (faults.Limit what count) = HasLimitFault bytes what count
HasFault bytes faults.Memory = Unit {0}

-- what other refusals than running out of memory say: the bytes spell no file that is judged
abbrev pub SpellsNothing : List ℕ → LoadFault → Type 0
SpellsNothing bytes faults.Memory = Unit {0}
SpellsNothing bytes other = (u : FileUnit) → IsFileOf bytes u → ⊥

-- the answer to bytes: what they spell; or the fault that they have, and then they spell nothing
abbrev pub IsLoaded : List ℕ → Result Judged LoadFault → Type 0
IsLoaded bytes (Ok j) = (u : FileUnit) × IsFileOf bytes u × (j ≡ judged_of u)
IsLoaded bytes (Err e) = HasFault bytes e × SpellsNothing bytes e

-- bytes spell at most one unit
abbrev pub FilesAreUnique : Type 0
FilesAreUnique = (bytes : List ℕ) (u v : FileUnit) → IsFileOf bytes u → IsFileOf bytes v → u ≡ v
