use Rattle.plc_outline_sound.proofs.Kept.{held_claims}
use Rattle.plc_outline_sound.proofs.laws.held_claims_are_true.Goals as goal

pub returns : goal.returns
returns c = held_claims
