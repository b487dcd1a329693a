use Rattle.plc_cli.proofs.Completing.{honestly}
use Rattle.plc_cli.proofs.laws.honest_runs_are_answered.Goals as goal

pub returns : goal.returns
returns c = honestly
