use Rattle.plc_oblig.proofs.OneSet.{alike_sets}
use Rattle.plc_oblig.proofs.alike.alike_obligations_have_one_set.Goals as goal

pub returns : goal.returns
returns c = alike_sets
