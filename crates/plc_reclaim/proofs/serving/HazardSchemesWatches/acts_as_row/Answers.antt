use Rattle.plc_reclaim.specs.Rows.{hazards}
use Rattle.plc_reclaim.proofs.Watching.{acts_by_tables}
use Rattle.plc_reclaim.proofs.serving.HazardSchemesWatches.acts_as_row.Goals as goal

pub returns : goal.returns
returns c = acts_by_tables hazards
