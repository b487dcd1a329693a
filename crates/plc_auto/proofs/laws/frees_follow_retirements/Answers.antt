-- Without a retirement each location stays one of `u`, from which a free leads to `bad`.
use Rattle.plc_auto.proofs.Letters.{frees_follow}
use Rattle.plc_auto.proofs.laws.frees_follow_retirements.Goals as goal

pub returns : goal.returns
returns c = frees_follow
