use Rattle.std.proofs.Common.{◌≡◌, ◌++◌, map, take, drop}
use Rattle.plc_mem.specs.State.{cut_node}
use Rattle.plc_mem.proofs.node.cut_nodes.Given as goal

abbrev pub invariant-loop-node : goal.invariant-loop-node
invariant-loop-node l = l.nodes ≡ map (cut_node l.a) (take l.node-index l.fn.nodes) ++ drop l.node-index l.fn.nodes
