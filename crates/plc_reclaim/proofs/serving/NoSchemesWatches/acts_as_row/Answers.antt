use Rattle.plc_reclaim.proofs.Watching.{acts_by_list}
use Rattle.plc_reclaim.proofs.serving.NoSchemesWatches.acts_as_row.Goals as goal

pub returns : goal.returns
returns c = acts_by_list
