use Rattle.std.proofs.Common.{refl}
use Rattle.plc_mem.specs.State.{with_retired}
use Rattle.plc_mem.proofs.memory.Memory.retire.Goals as goal

pub returns : goal.returns
unfolding with_retired
returns c = rw (c.in_ok-push.ensures.items, ← c.self.view_is) refl
