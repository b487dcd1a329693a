use Rattle.plc_mem.proofs.Coherence.{coherence}
use Rattle.plc_mem.proofs.laws.coherence_is_kept.Goals as goal

pub returns : goal.returns
returns c = coherence
