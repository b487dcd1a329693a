use Rattle.plc_mem.proofs.Joined.{value_kept, write_value, read_field_value, write_field_value}
use Rattle.plc_mem.proofs.memory.Memory.change_in_place.Goals as goal

pub returns-in-DataSet-clause-after : goal.returns-in-DataSet-clause-after
returns-in-DataSet-clause-after c = λ t a. let h = rw c.in-DataSet.is at c.requires.named in rw (c.in-DataSet.is, c.set_value.ensures, c.number.ensures c.args.self.now t) (write_value c.args.self.now t c.args.me.now c.in-DataSet.x _ h.0)

pub returns-in-DataLoad-clause-after : goal.returns-in-DataLoad-clause-after
returns-in-DataLoad-clause-after c = λ t a. let h = rw c.in-DataLoad.is at c.requires.named in rw (c.in-DataLoad.is, c.set_value-in-DataLoad.ensures, ← c.read-in-DataLoad.ensures t, read_field_value, ← c.field_value-n.ensures) (write_value c.args.self.now t c.args.me.now c.in-DataLoad.x c.field_value-n.result h.0)

pub returns-in-DataStore-clause-after : goal.returns-in-DataStore-clause-after
returns-in-DataStore-clause-after c = λ t a. rw (c.in-DataStore.is, c.set_field_value.ensures, ← c.read-in-DataStore.ensures t, ← c.number-in-DataStore.ensures c.args.self.now t) (write_field_value c.args.self.now t c.args.me.now c.read-in-DataStore.result.number c.in-DataStore.f.0 c.number-in-DataStore.result)

pub returns-in-DataStore-clause-kept : goal.returns-in-DataStore-clause-kept
returns-in-DataStore-clause-kept c = rw c.set_field_value.ensures (value_kept c.args.self.now c.args.me.now _ _ _)
