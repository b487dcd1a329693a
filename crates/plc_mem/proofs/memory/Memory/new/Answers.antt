use Rattle.plc_mem.proofs.Coherence.{new_coherent}
use Rattle.plc_mem.proofs.memory.Memory.new.Goals as goal

pub returns-clause-coherent : goal.returns-clause-coherent
returns-clause-coherent c = new_coherent _ _ _ c.fresh.result c.fresh.ensures
