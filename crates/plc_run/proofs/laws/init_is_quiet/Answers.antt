use Rattle.plc_run.proofs.Quiet.{quiet_init}
use Rattle.plc_run.proofs.laws.init_is_quiet.Goals as goal

pub returns : goal.returns
returns c = quiet_init
