use Rattle.plc_xfer.proofs.Facts.{after_fits, after_well_formed}
use Rattle.plc_xfer.proofs.effects.apply.Goals as goal

pub returns-clause-fits : goal.returns-clause-fits
returns-clause-fits c = rw c.write_effect.ensures (after_fits _ _ _ c.requires)

pub returns-clause-well_formed : goal.returns-clause-well_formed
returns-clause-well_formed c = λ h. rw c.write_effect.ensures (after_well_formed _ _ _ h)
