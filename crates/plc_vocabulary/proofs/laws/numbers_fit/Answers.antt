use Rattle.plc_vocabulary.proofs.Ascent.{numbers_fit}
use Rattle.plc_vocabulary.proofs.laws.numbers_fit.Goals as goal

pub returns : goal.returns
returns c = numbers_fit
