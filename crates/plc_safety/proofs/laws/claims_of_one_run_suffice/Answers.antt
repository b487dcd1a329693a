use Rattle.plc_sound.proofs.Moves.{sound}
use Rattle.plc_erasure.proofs.Runs.{erasure, run_claims}
use Rattle.plc_safety.proofs.ByRun.{one_run_suffices}
use Rattle.plc_safety.proofs.laws.claims_of_one_run_suffice.Goals as goal

pub returns : goal.returns
returns c = one_run_suffices sound erasure run_claims
