use Rattle.plc_mem.proofs.Opposites.{opposed}
use Rattle.plc_mem.proofs.laws.tests_have_opposites.Goals as goal

pub returns : goal.returns
returns c = opposed
