use Rattle.plc_mem.proofs.Views.{memory_laws}
use Rattle.plc_mem.proofs.laws.memory_reads_back.Goals as goal

pub returns : goal.returns
returns c = memory_laws
