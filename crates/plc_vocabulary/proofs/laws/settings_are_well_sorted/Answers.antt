use Rattle.plc_vocabulary.proofs.ActSorts.{acts_fit}
use Rattle.plc_vocabulary.proofs.NodeSorts.{nodes_fit}
use Rattle.plc_vocabulary.proofs.laws.settings_are_well_sorted.Goals as goal

pub returns-clause-acts : goal.returns-clause-acts
returns-clause-acts c = acts_fit

pub returns-clause-nodes : goal.returns-clause-nodes
returns-clause-nodes c = nodes_fit
