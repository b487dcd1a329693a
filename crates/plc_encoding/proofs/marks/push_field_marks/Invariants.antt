use Rattle.std.proofs.Common.{◌≡◌, drop}
use Rattle.plc_symbolic.specs.Numbering.{written_all}
use Rattle.plc_encoding.specs.Items.{field_marks}
use Rattle.plc_encoding.proofs.marks.push_field_marks.Given as goal

abbrev pub invariant-loop-node : goal.invariant-loop-node
invariant-loop-node l =
    written_all l.initial.out (field_marks l.nodes l.f)
    ≡ written_all l.out (field_marks (drop l.node-index l.nodes) l.f)
