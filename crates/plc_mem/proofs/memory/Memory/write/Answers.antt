use Rattle.plc_mem.specs.contracts.memory.Memory.{the_view}
use Rattle.plc_mem.proofs.Joined.{write_shared, write_local}
use Rattle.plc_mem.proofs.memory.Memory.write.Goals as goal

pub returns-in-Shared-clause-written : goal.returns-in-Shared-clause-written
returns-in-Shared-clause-written c = λ t. let h = rw (c.in-Shared.is, ← c.self.view_is) at c.requires in rw (c.in-Shared.is, ← c.self.view_is) (write_shared (the_view c.self.inside) t c.args.me.now c.in-Shared.i c.args.c h)

pub returns-in-Local-clause-written : goal.returns-in-Local-clause-written
returns-in-Local-clause-written c = λ t. let h = rw c.in-Local.is at c.requires in rw (c.in-Local.is, c.set_pointer.ensures) (write_local c.args.self.now t c.args.me.now c.in-Local.i c.args.c h)
