use Rattle.plc_run.proofs.Runs.{run_laws}
use Rattle.plc_run.proofs.laws.runs_go_on.Goals as goal

pub returns : goal.returns
returns c = run_laws
