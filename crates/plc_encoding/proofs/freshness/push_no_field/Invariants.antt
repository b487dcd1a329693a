use Rattle.std.proofs.Common.{◌≡◌, flat_map, drop}
use Rattle.plc_symbolic.specs.Numbering.{written_all}
use Rattle.plc_encoding.specs.Items.{no_field_leads}
use Rattle.plc_encoding.proofs.freshness.push_no_field.Given as goal

abbrev pub invariant-loop-node : goal.invariant-loop-node
invariant-loop-node l =
    written_all l.initial.out (flat_map (no_field_leads l.fields) l.nodes)
    ≡ written_all l.out (flat_map (no_field_leads l.fields) (drop l.node-index l.nodes))
