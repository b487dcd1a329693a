use Rattle.plc_run.proofs.Observed.{observed}
use Rattle.plc_sound.proofs.Moves.{sound}
use Rattle.plc_erasure.proofs.Runs.{erasure, true_claims}
use Rattle.plc_outline_sound.proofs.Kept.{held_outlines}
use Rattle.plc_safety.proofs.Located.{located_claims}
use Rattle.plc_safety.proofs.laws.located_claims_are_true.Goals as goal

pub returns : goal.returns
returns c = located_claims sound erasure true_claims held_outlines observed
