use Rattle.std.proofs.Common.{refl}
use Rattle.plc_mem.specs.State.{is_used}
use Rattle.plc_mem.proofs.memory.Memory.used.Goals as goal

pub returns : goal.returns
unfolding is_used
returns c = rw (c.holds.ensures, ← c.self.view_is) refl
