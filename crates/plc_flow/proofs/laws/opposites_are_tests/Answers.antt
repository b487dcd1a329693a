use Rattle.plc_flow.proofs.Opposites.{opposites_are_tests}
use Rattle.plc_flow.proofs.laws.opposites_are_tests.Goals as goal

pub returns : goal.returns
returns c = opposites_are_tests
