-- Member by member.
use Rattle.plc_auto.proofs.Growth.{sets_of}
use Rattle.plc_auto.proofs.set_laws.sets_of_locations.Goals as goal

pub returns : goal.returns
returns c = sets_of
