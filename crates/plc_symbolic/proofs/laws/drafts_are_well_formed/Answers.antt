use Rattle.plc_symbolic.proofs.Drafts.{well_formed}
use Rattle.plc_symbolic.proofs.laws.drafts_are_well_formed.Goals as goal

pub returns : goal.returns
returns c = well_formed
