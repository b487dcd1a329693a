use Rattle.plc_gc.proofs.Values.{runs_keep_values}
use Rattle.plc_gc.proofs.laws.collected_runs_keep_values.Goals as goal

pub returns : goal.returns
returns c = runs_keep_values
