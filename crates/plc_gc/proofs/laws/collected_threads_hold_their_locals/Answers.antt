use Rattle.plc_gc.proofs.Threads.{run_fits}
use Rattle.plc_gc.proofs.laws.collected_threads_hold_their_locals.Goals as goal

pub returns : goal.returns
returns c = λ flow threads moves d fits sorted some run. run_fits flow fits sorted threads some moves d run
