use Rattle.plc_mem.specs.contracts.memory.Memory.{the_view}
use Rattle.plc_mem.proofs.Joined.{read_shared, read_local}
use Rattle.plc_mem.proofs.memory.Memory.read.Goals as goal

pub returns-in-Shared : goal.returns-in-Shared
returns-in-Shared c = λ t. rw (c.in-Shared.is, c.cell_or_null.ensures, c.deref.ensures.value, ← c.self.view_is) (read_shared (the_view c.self.inside) t c.args.me.now c.in-Shared.i)

pub returns-in-Local : goal.returns-in-Local
returns-in-Local c = λ t. rw (c.in-Local.is, c.pointer.ensures) (read_local c.args.self.now t c.args.me.now c.in-Local.i)
