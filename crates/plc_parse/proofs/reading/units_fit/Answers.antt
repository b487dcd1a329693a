use Rattle.plc_parse.proofs.Answering.{spelled_fits}
use Rattle.plc_parse.proofs.reading.units_fit.Goals as goal

pub returns : goal.returns
returns c = spelled_fits
