use Rattle.plc_print.proofs.ReadBack.{trees_read_back}
use Rattle.plc_print.proofs.laws.canonical_trees_read_back.Goals as goal

pub returns : goal.returns
returns c = trees_read_back
