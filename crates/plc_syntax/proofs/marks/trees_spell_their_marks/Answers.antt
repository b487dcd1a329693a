use Rattle.plc_syntax.proofs.Marked.{marks_spelled}
use Rattle.plc_syntax.proofs.marks.trees_spell_their_marks.Goals as goal

pub returns : goal.returns
returns c = marks_spelled
