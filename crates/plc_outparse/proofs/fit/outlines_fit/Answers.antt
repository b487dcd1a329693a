use Rattle.plc_outparse.proofs.Fits.{outline_fits}
use Rattle.plc_outparse.proofs.fit.outlines_fit.Goals as goal

pub returns : goal.returns
returns c = outline_fits
