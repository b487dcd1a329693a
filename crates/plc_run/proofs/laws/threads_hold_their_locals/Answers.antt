use Rattle.plc_run.proofs.Threads.{run_fits}
use Rattle.plc_run.proofs.laws.threads_hold_their_locals.Goals as goal

pub returns : goal.returns
returns c = λ flow o threads n d fits some run. run_fits flow fits o threads some n d run
