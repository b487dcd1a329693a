use Rattle.plc_cli.proofs.Completing.{filling}
use Rattle.plc_cli.proofs.laws.honest_runs_fill_the_room.Goals as goal

pub returns : goal.returns
returns c = filling
