use Rattle.std.proofs.Common.{refl}
use Rattle.plc_gc.proofs.state.State.goes.Goals as goal

pub returns-in-Refresh : goal.returns-in-Refresh
returns-in-Refresh c = rw c.in-Refresh.is refl
