use Rattle.plc_suggest.proofs.MarkedPrograms.{program_marked}
use Rattle.plc_suggest.proofs.parts.marked_program.Goals as goal

pub returns : goal.returns
returns c = λ spots marks. program_marked c.args.parts.now spots c.args.steps c.requires marks
