use Rattle.std.proofs.Common.{◌≡◌, map, drop}
use Rattle.plc_symbolic.specs.Numbering.{written_all}
use Rattle.plc_encoding.specs.Items.{one_of_values}
use Rattle.plc_encoding.proofs.values.push_field_values.Given as goal

abbrev pub invariant-loop-node : goal.invariant-loop-node
invariant-loop-node l =
    written_all l.initial.out (map (one_of_values l.g l.first l.count) l.nodes)
    ≡ written_all l.out (map (one_of_values l.g l.first l.count) (drop l.node-index l.nodes))
