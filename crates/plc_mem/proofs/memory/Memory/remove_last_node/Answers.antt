use Rattle.std.proofs.Common.{refl, length}
use Rattle.plc_mem.specs.Undoing.{without_last_node}
use Rattle.plc_mem.proofs.Undone.{nodes_fit_take}
use Rattle.plc_mem.proofs.memory.Memory.remove_last_node.Goals as goal

pub invariant_of-self : goal.invariant_of-self
invariant_of-self c = rw c.remove_last.ensures (nodes_fit_take (length c.self.inside.fields.items) _ c.self.inside.nodes c.self.invariant)

pub returns : goal.returns
unfolding without_last_node
returns c = rw (c.remove_last.ensures, ← c.self.view_is) refl
