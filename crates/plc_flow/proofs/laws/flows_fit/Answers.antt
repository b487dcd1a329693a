use Rattle.plc_flow.proofs.Fitting.{all_flows_fit}
use Rattle.plc_flow.proofs.laws.flows_fit.Goals as goal

pub returns : goal.returns
returns c = all_flows_fit
