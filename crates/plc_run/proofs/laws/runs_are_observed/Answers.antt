use Rattle.plc_run.proofs.Observed.{observed}
use Rattle.plc_run.proofs.laws.runs_are_observed.Goals as goal

pub returns : goal.returns
returns c = λ o threads w. observed o w threads
