use Rattle.plc_gc.proofs.Ranges.{runs_stay_in_range}
use Rattle.plc_gc.proofs.laws.collected_runs_stay_in_range.Goals as goal

pub returns : goal.returns
returns c = runs_stay_in_range
