use Rattle.std.proofs.Common.{refl}
use Rattle.plc_mem.specs.State.{at}
use Rattle.plc_mem.proofs.memory.Memory.field.Goals as goal

pub returns : goal.returns
unfolding at
returns c = rw (c.cell.ensures, ← c.self.view_is) refl
