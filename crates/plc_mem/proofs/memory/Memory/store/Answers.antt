use Rattle.plc_mem.proofs.Joined.{field_kept, write_field}
use Rattle.plc_mem.proofs.memory.Memory.store.Goals as goal

pub returns-clause-after : goal.returns-clause-after
returns-clause-after c = λ t. rw (c.set_field.ensures, ← c.read.ensures t) (write_field c.args.self.now t c.args.me.now c.read.result.number c.args.f.0 c.args.c)

pub returns-clause-kept : goal.returns-clause-kept
returns-clause-kept c = rw c.set_field.ensures (field_kept c.args.self.now c.args.me.now _ _ _)
