use Rattle.std.proofs.Common.{◌≡◌, flat_map, drop}
use Rattle.plc_symbolic.specs.Numbering.{written_all}
use Rattle.plc_encoding.specs.Execution.{update_at}
use Rattle.plc_encoding.proofs.execution.push_updates.Given as goal

abbrev pub invariant-loop-node : goal.invariant-loop-node
invariant-loop-node l =
    written_all l.initial.out (flat_map (update_at l.map l.version l.at l.value) l.nodes)
    ≡ written_all l.out (flat_map (update_at l.map l.version l.at l.value) (drop l.node-index l.nodes))
