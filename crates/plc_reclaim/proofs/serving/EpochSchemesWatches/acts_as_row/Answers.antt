use Rattle.plc_reclaim.specs.Rows.{epochs}
use Rattle.plc_reclaim.proofs.Watching.{acts_by_tables}
use Rattle.plc_reclaim.proofs.serving.EpochSchemesWatches.acts_as_row.Goals as goal

pub returns : goal.returns
returns c = acts_by_tables epochs
