use Rattle.std.proofs.Common.{refl}
use Rattle.plc_mem.proofs.Joined.{read_field}
use Rattle.plc_mem.proofs.memory.Memory.load.Goals as goal

pub returns-clause-after : goal.returns-clause-after
returns-clause-after c = λ t. rw (c.write.ensures.written t, c.field-c.ensures, ← c.read.ensures t, read_field) refl
