use Rattle.plc_parse.proofs.Answering.{one_meaning}
use Rattle.plc_parse.proofs.reading.units_are_unique.Goals as goal

pub returns : goal.returns
returns c = one_meaning
