use Rattle.plc_flow.proofs.KeptMarks.{marks_kept}
use Rattle.plc_flow.proofs.laws.lowering_keeps_marks.Goals as goal

pub returns : goal.returns
returns c = marks_kept
