use Rattle.plc_parse.proofs.OneFault.{faults_of_units}
use Rattle.plc_parse.proofs.reading.faults_are_one.Goals as goal

pub returns : goal.returns
returns c = faults_of_units
