use Rattle.std.proofs.Common.{refl}
use Rattle.plc_mem.proofs.Joined.{field_kept, value_kept, write_field, write_field_value, write_value, kept-then}
use Rattle.plc_mem.proofs.Undone.{dropped_node_joined, dropped_node_kept, dropped_retired_joined, dropped_retired_kept}
use Rattle.plc_mem.proofs.memory.Memory.undo.Goals as goal

pub returns-in-Field-clause-undone : goal.returns-in-Field-clause-undone
returns-in-Field-clause-undone c = λ t. rw (c.in-Field.is, c.set_field.ensures) (write_field c.args.self.now t c.args.me.now c.in-Field.a c.in-Field.f.0 c.in-Field.was)

pub returns-in-Field-clause-kept : goal.returns-in-Field-clause-kept
returns-in-Field-clause-kept c = rw c.set_field.ensures (field_kept c.args.self.now c.args.me.now c.in-Field.a c.in-Field.f.0 c.in-Field.was)

pub returns-in-Value-clause-undone : goal.returns-in-Value-clause-undone
returns-in-Value-clause-undone c = λ t. let h = rw c.in-Value.is at c.requires in rw (c.in-Value.is, c.set_value.ensures) (write_value c.args.self.now t c.args.me.now c.in-Value.x c.in-Value.was h)

pub returns-in-FieldValue-clause-undone : goal.returns-in-FieldValue-clause-undone
returns-in-FieldValue-clause-undone c = λ t. rw (c.in-FieldValue.is, c.set_field_value.ensures) (write_field_value c.args.self.now t c.args.me.now c.in-FieldValue.a c.in-FieldValue.f.0 c.in-FieldValue.was)

pub returns-in-FieldValue-clause-kept : goal.returns-in-FieldValue-clause-kept
returns-in-FieldValue-clause-kept c = rw c.set_field_value.ensures (value_kept c.args.self.now c.args.me.now c.in-FieldValue.a c.in-FieldValue.f.0 c.in-FieldValue.was)

pub returns-in-Made-clause-undone : goal.returns-in-Made-clause-undone
returns-in-Made-clause-undone c = λ t. rw (c.in-Made.is, c.remove_last_node.ensures, dropped_node_joined, c.write-in-Made.ensures.written t) refl

pub returns-in-Made-clause-kept : goal.returns-in-Made-clause-kept
returns-in-Made-clause-kept c = kept-then c.write-in-Made.ensures.kept (rw c.remove_last_node.ensures (dropped_node_kept c.write-in-Made.new.self c.write-in-Made.new.me))

pub returns-in-Retired-clause-undone : goal.returns-in-Retired-clause-undone
returns-in-Retired-clause-undone c = λ t. rw (c.in-Retired.is, c.remove_last_retired.ensures, dropped_retired_joined) refl

pub returns-in-Retired-clause-kept : goal.returns-in-Retired-clause-kept
returns-in-Retired-clause-kept c = rw c.remove_last_retired.ensures (dropped_retired_kept c.args.self.now c.args.me.now)
