use Rattle.std.proofs.Common.{refl}
use Rattle.plc_mem.proofs.Joined.{read_field}
use Rattle.plc_mem.proofs.memory.Memory.undo_of_store.Goals as goal

pub returns : goal.returns
returns c = λ t. rw (c.field.ensures, ← read_field c.args.self.now t c.args.me.now c.read-a.result.number c.args.f.0, c.read-a.ensures t) refl
