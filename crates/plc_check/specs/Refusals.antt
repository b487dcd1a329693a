-- What a lower call's answer is here.
use Rattle.std.specs.Prelude.{◌≡◌, ◌⊎◌, ◌<◌, ◌≤◌, ◌+◌, ℕ, List, length, Option, Some, None, Result, Ok, Err}
use Rattle.plc_base.specs.Limits.{most}
use Rattle.plc_base.specs.declared.limits.What1.{What1}
use Rattle.plc_base.specs.declared.limits.What1.TheVariants as limits
use Rattle.plc_lex.specs.declared.token.Token.{Token}
use Rattle.plc_lex.specs.declared.fault.LexFault.{LexFault}
use Rattle.plc_lex.specs.declared.fault.LexFault.TheVariants as lex
use Rattle.plc_scope.specs.declared.fault.ParseFault.{ParseFault}
use Rattle.plc_scope.specs.declared.fault.ParseFault.TheVariants as parse
use Rattle.plc_parse.specs.declared.unit.Unit.{Unit as FileUnit}
use Rattle.plc_logic.specs.declared.clause.Outline.{Outline}
use Rattle.plc_lang.specs.Fit.{FileFits, NamesWhatIsThere}
use Rattle.plc_lang.specs.WellSorted.{FileIsWellSorted}
use Rattle.plc_flow.specs.declared.flow.Flow.{Flow}
use Rattle.plc_flow.specs.declared.flow.FlowFault.{FlowFault}
use Rattle.plc_flow.specs.declared.flow.FlowFault.TheVariants as flow
use Rattle.plc_flow.specs.Lowering.{made_of, flow_of, most_points}
use Rattle.plc_flow.specs.WellFormed.{FlowFits}
use Rattle.plc_flow.specs.WellSorted.{FlowIsWellSorted}
use Rattle.plc_oblig.specs.Obligations.{obligations}
use Rattle.plc_oblig.specs.Outlines.{HasFewObligations, HasSmallSets, HasLargeSet}
use Rattle.plc_check.specs.declared.judged.Judged.{Judged}
use Rattle.plc_check.specs.declared.judged.LoadFault.{LoadFault}
use Rattle.plc_check.specs.declared.judged.LoadFault.TheVariants as faults
use Rattle.plc_check.specs.Answered.{judged_of, line_of}

-- a lower call's fault, of which running out of memory is none
abbrev pub lex_refusal : LexFault → LoadFault
lex_refusal lex.Memory = faults.Memory
lex_refusal (lex.BadByte at) = faults.Lex (lex.BadByte at)
lex_refusal (lex.LongName at) = faults.Lex (lex.LongName at)
lex_refusal (lex.BadNumber at) = faults.Lex (lex.BadNumber at)

-- the refusal of a fault without a place
abbrev pub unplaced_refusal : ParseFault → LoadFault
unplaced_refusal (parse.Limit what count) = faults.Limit what count
unplaced_refusal other = faults.Memory

-- the refusal of a fault of the parser, with the line of its place
abbrev pub parse_refusal : List ℕ → List Token → ParseFault → LoadFault
parse_refusal bytes ts (parse.Syntax at) = faults.Parse (parse.Syntax at) (line_of bytes ts at)
parse_refusal bytes ts (parse.Undeclared at) = faults.Parse (parse.Undeclared at) (line_of bytes ts at)
parse_refusal bytes ts (parse.Duplicate at) = faults.Parse (parse.Duplicate at) (line_of bytes ts at)
parse_refusal bytes ts (parse.WrongSort at) = faults.Parse (parse.WrongSort at) (line_of bytes ts at)
parse_refusal bytes ts (parse.NoSuchCall at) = faults.Parse (parse.NoSuchCall at) (line_of bytes ts at)
parse_refusal bytes ts (parse.Limit what count) = faults.Limit what count
parse_refusal bytes ts parse.Memory = faults.Memory

-- the lowering's faults, of which one is a limit
abbrev pub flow_refusal : FlowFault → LoadFault
flow_refusal (flow.TooManyPoints count) = faults.Limit limits.Points count
flow_refusal flow.Memory = faults.Memory

-- the points of a unit are too many
pub record HasManyPoints (u : FileUnit) (what : What1) (count : ℕ) : Type 0 where
  pub many : most_points < (made_of u.file).points
  pub what_is : what ≡ limits.Points
  pub count_is : count ≡ most_points + 1

-- what is judged of a unit, or too many points; memory may run out
abbrev pub IsLowered : FileUnit → Result Judged LoadFault → Type 0
IsLowered u (Ok j) = (j ≡ judged_of u) × ((made_of u.file).points ≤ most_points)
    × (FileFits u.file → NamesWhatIsThere u.file → FlowFits j.flow)
    × (FileIsWellSorted u.file → FlowIsWellSorted j.flow)
IsLowered u (Err (faults.Limit what count)) = HasManyPoints u what count
IsLowered u (Err faults.Memory) = Unit {0}
IsLowered u (Err (faults.Lex fault)) = ⊥
IsLowered u (Err (faults.Parse fault line)) = ⊥

-- the first limit that an outline passes, none where it passes none
abbrev pub IsPassedLimit : Flow → Outline → Option What1 → Type 0
IsPassedLimit flow outline None = HasFewObligations flow outline × HasSmallSets flow outline
IsPassedLimit flow outline (Some limits.Obligations) = most limits.Obligations < length (obligations flow outline)
IsPassedLimit flow outline (Some limits.Clauses) = HasFewObligations flow outline × HasLargeSet flow outline
IsPassedLimit flow outline (Some other) = ⊥

-- what is judged is handed on where its outline is within its limits; else the first limit that it passes is the answer
abbrev pub IsWithinLimits : Judged → Result Judged What1 → Type 0
IsWithinLimits j (Ok k) = (k ≡ j) × IsPassedLimit j.flow j.unit_outline None
IsWithinLimits j (Err what) = IsPassedLimit j.flow j.unit_outline (Some what)

-- what is judged is handed on where its outline is within its limits; else the first that is passed is told
abbrev pub IsLimited : Judged → Result Judged LoadFault → Type 0
IsLimited j (Ok k) = (k ≡ j) × IsPassedLimit j.flow j.unit_outline None
IsLimited j (Err (faults.Limit what count)) =
    IsPassedLimit j.flow j.unit_outline (Some what) × (count ≡ most what + 1)
IsLimited j (Err faults.Memory) = Unit {0}
IsLimited j (Err (faults.Lex fault)) = ⊥
IsLimited j (Err (faults.Parse fault line)) = ⊥

-- the points of a unit are few enough, and its outline passes this limit as the first
pub record PassesOutlineLimit (u : FileUnit) (what : What1) (count : ℕ) : Type 0 where
  pub few : (made_of u.file).points ≤ most_points
  pub passed : IsPassedLimit (flow_of u.file) u.outline (Some what)
  pub count_is : count ≡ most what + 1

-- what is judged of a unit, or the first limit that its flow or its outline passes; memory may run out
abbrev pub IsJudgedOf : FileUnit → Result Judged LoadFault → Type 0
IsJudgedOf u (Ok j) = (j ≡ judged_of u) × ((made_of u.file).points ≤ most_points)
    × IsPassedLimit (flow_of u.file) u.outline None
IsJudgedOf u (Err (faults.Limit what count)) = HasManyPoints u what count ⊎ PassesOutlineLimit u what count
IsJudgedOf u (Err faults.Memory) = Unit {0}
IsJudgedOf u (Err (faults.Lex fault)) = ⊥
IsJudgedOf u (Err (faults.Parse fault line)) = ⊥
