-- What is so of the flow of every file, and of the opposites of tests, law by law.
use Rattle.std.specs.Prelude.{◌≡◌, ◌≤◌, true, false}
use Rattle.plc_lang.specs.declared.syntax.File.{File}
use Rattle.plc_lang.specs.declared.syntax.Primitive.{Primitive}
use Rattle.plc_lang.specs.Fit.{FileFits, NamesWhatIsThere}
use Rattle.plc_lang.specs.Marks.{file_uses_marks}
use Rattle.plc_lang.specs.WellSorted.{FileIsWellSorted, is_test, is_claim}
use Rattle.plc_flow.specs.declared.flow.Flow.{Flow}
use Rattle.plc_flow.specs.Lowering.{made_of, flow_of, most_points}
use Rattle.plc_flow.specs.Marks.{flow_uses_marks}
use Rattle.plc_flow.specs.Points.{StepsStayInTheirGate}
use Rattle.plc_flow.specs.Sides.{opposite}
use Rattle.plc_flow.specs.WellFormed.{IsWellFormed}
use Rattle.plc_flow.specs.WellSorted.{FlowOfFits}

-- the flow of every file that was read and has few enough points can be run, each thing where its kind may stand
abbrev pub FlowsFit : Type 0
FlowsFit =
    (file : File) → FileFits file → NamesWhatIsThere file → FileIsWellSorted file
    → (made_of file).points ≤ most_points → FlowOfFits file

-- in every flow a step that leaves a point of an operation is of that operation
abbrev pub EveryStepStaysInItsGate : Type 0
EveryStepStaysInItsGate = (flow : Flow) → IsWellFormed flow → StepsStayInTheirGate flow

-- a flow uses marks exactly where its file does
abbrev pub LoweringKeepsMarks : Type 0
LoweringKeepsMarks = (file : File) → flow_uses_marks (flow_of file) ≡ file_uses_marks file

-- the opposite of a test is a test, whose opposite is the first; no test is a claim. In which states each of the two
-- goes is said by the laws of both meanings of memory
pub record OppositesAreTests : Type 0 where
  pub tests : (k : Primitive) → is_test k ≡ true → is_test (opposite k) ≡ true
  pub back : (k : Primitive) → is_test k ≡ true → opposite (opposite k) ≡ k
  pub no_claims : (k : Primitive) → is_test k ≡ true → is_claim k ≡ false
