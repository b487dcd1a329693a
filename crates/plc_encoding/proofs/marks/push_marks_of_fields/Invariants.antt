use Rattle.std.proofs.Common.{◌≡◌, flat_map, drop}
use Rattle.plc_symbolic.specs.Numbering.{written_all}
use Rattle.plc_encoding.specs.Items.{field_marks}
use Rattle.plc_encoding.proofs.marks.push_marks_of_fields.Given as goal

abbrev pub invariant-loop-f : goal.invariant-loop-f
invariant-loop-f l =
    written_all l.initial.out (flat_map (field_marks l.nodes) l.fields)
    ≡ written_all l.out (flat_map (field_marks l.nodes) (drop l.f-index l.fields))
