use Rattle.plc_gc.proofs.Unmarked.{runs_stay_unmarked}
use Rattle.plc_gc.proofs.laws.collected_runs_stay_unmarked.Goals as goal

pub returns : goal.returns
returns c = runs_stay_unmarked
