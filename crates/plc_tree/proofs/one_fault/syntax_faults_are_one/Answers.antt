use Rattle.plc_tree.proofs.Places.{faults_one}
use Rattle.plc_tree.proofs.one_fault.syntax_faults_are_one.Goals as goal

pub returns : goal.returns
returns c = faults_one
