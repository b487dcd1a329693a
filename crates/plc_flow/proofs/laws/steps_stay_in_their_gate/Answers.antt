use Rattle.plc_flow.proofs.Leaving.{stay_in_their_gate}
use Rattle.plc_flow.proofs.laws.steps_stay_in_their_gate.Goals as goal

pub returns : goal.returns
returns c = stay_in_their_gate
