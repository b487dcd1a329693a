use Rattle.plc_gc.proofs.Accesses.{agreed}
use Rattle.plc_gc.proofs.laws.collected_accesses_agree.Goals as goal

pub returns : goal.returns
returns c = agreed
