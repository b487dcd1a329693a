use Rattle.std.proofs.Common.{refl}
use Rattle.plc_mem.specs.State.{with_node}
use Rattle.plc_mem.proofs.Joined.{node_kept, kept-then, join_node, new_is_unused}
use Rattle.plc_mem.proofs.memory.Memory.change.Goals as goal

pub add_node-requires : goal.add_node-requires
add_node-requires c = let h = rw c.in-New.is at c.requires.goes.1 in new_is_unused c.args.self.now c.requires.goes.0 c.args.me.now c.args.a c.in-New.p h

pub write-requires : goal.write-requires
unfolding with_node
write-requires c = let h = rw c.in-New.is at c.requires.named in rw c.in_ok-add_node-in-New.ensures h

pub returns-in_ok-add_node-in-New-clause-after : goal.returns-in_ok-add_node-in-New-clause-after
returns-in_ok-add_node-in-New-clause-after c = λ t. rw (c.in-New.is, c.write.ensures.written t, c.fresh.ensures, c.in_ok-add_node-in-New.ensures, join_node) refl

pub returns-in_ok-add_node-in-New-clause-kept : goal.returns-in_ok-add_node-in-New-clause-kept
returns-in_ok-add_node-in-New-clause-kept c = kept-then (rw c.in_ok-add_node-in-New.ensures (node_kept c.args.self.now c.args.me.now c.args.a)) c.write.ensures.kept
