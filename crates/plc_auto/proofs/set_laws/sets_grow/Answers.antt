-- Each member of a step or a closure comes from one member of the set.
use Rattle.plc_auto.proofs.Growth.{grow}
use Rattle.plc_auto.proofs.set_laws.sets_grow.Goals as goal

pub returns : goal.returns
returns c = grow
