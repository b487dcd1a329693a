use Rattle.plc_mem.proofs.Accesses.{agreed}
use Rattle.plc_mem.proofs.laws.accesses_agree.Goals as goal

pub returns : goal.returns
returns c = agreed
