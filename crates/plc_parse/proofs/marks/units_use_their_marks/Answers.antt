use Rattle.plc_parse.proofs.Marked.{units_marked}
use Rattle.plc_parse.proofs.marks.units_use_their_marks.Goals as goal

pub returns : goal.returns
returns c = units_marked
