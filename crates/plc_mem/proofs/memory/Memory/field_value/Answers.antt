use Rattle.std.proofs.Common.{refl}
use Rattle.plc_mem.specs.State.{field_value}
use Rattle.plc_mem.proofs.memory.Memory.field_value.Goals as goal

pub returns : goal.returns
unfolding field_value
returns c = rw (c.value.ensures, ← c.self.view_is) refl
