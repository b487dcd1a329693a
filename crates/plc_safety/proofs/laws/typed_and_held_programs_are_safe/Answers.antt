use Rattle.plc_sound.proofs.Runs.{true_claims_suffice}
use Rattle.plc_erasure.proofs.Runs.{true_claims}
use Rattle.plc_outline_sound.proofs.Kept.{held_claims}
use Rattle.plc_safety.proofs.Joint.{claims_suffice, held_suffices}
use Rattle.plc_safety.proofs.laws.typed_and_held_programs_are_safe.Goals as goal

pub returns : goal.returns
returns c = held_suffices (claims_suffice true_claims_suffice true_claims) held_claims
