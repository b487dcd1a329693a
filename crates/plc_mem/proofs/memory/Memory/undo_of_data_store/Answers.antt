use Rattle.std.proofs.Common.{refl}
use Rattle.plc_mem.proofs.Joined.{read_field_value}
use Rattle.plc_mem.proofs.memory.Memory.undo_of_data_store.Goals as goal

pub returns : goal.returns
returns c = λ t. rw (c.field_value.ensures, ← read_field_value c.args.self.now t c.args.me.now c.read-a.result.number c.args.f.0, c.read-a.ensures t) refl
