use Rattle.plc_sound.proofs.Runs.{true_claims_suffice}
use Rattle.plc_sound.proofs.laws.true_claims_suffice.Goals as goal

pub returns : goal.returns
returns c = true_claims_suffice
