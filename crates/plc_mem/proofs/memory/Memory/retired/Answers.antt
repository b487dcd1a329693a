use Rattle.std.proofs.Common.{refl}
use Rattle.plc_mem.specs.State.{is_retired}
use Rattle.plc_mem.proofs.memory.Memory.retired.Goals as goal

pub returns : goal.returns
unfolding is_retired
returns c = rw (c.contains.ensures.value, c.deref.ensures.value, ← c.self.view_is) refl
