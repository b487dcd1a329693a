use Rattle.std.proofs.Common.{◌≡◌, take}
use Rattle.plc_mem.proofs.node.copy_nodes.Given as goal

abbrev pub invariant-loop-node : goal.invariant-loop-node
invariant-loop-node l = l.copy.items ≡ take l.node-index l.nodes
