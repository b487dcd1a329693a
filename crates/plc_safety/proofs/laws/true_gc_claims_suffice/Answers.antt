use Rattle.plc_sound.proofs.Runs.{true_claims_suffice}
use Rattle.plc_erasure.proofs.Runs.{true_claims}
use Rattle.plc_safety.proofs.Joint.{claims_suffice}
use Rattle.plc_safety.proofs.laws.true_gc_claims_suffice.Goals as goal

pub returns : goal.returns
returns c = claims_suffice true_claims_suffice true_claims
