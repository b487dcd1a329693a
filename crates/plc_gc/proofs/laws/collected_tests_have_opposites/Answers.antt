use Rattle.plc_gc.proofs.Opposites.{opposed}
use Rattle.plc_gc.proofs.laws.collected_tests_have_opposites.Goals as goal

pub returns : goal.returns
returns c = opposed
