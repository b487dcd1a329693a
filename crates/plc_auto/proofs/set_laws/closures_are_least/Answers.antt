-- Row by row, and from the closed set that it is.
use Rattle.plc_auto.proofs.Growth.{least}
use Rattle.plc_auto.proofs.set_laws.closures_are_least.Goals as goal

pub returns : goal.returns
returns c = least
