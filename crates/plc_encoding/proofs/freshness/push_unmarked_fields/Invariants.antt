use Rattle.std.proofs.Common.{◌≡◌, map, drop}
use Rattle.plc_symbolic.specs.Numbering.{written_all}
use Rattle.plc_encoding.specs.Items.{unmarked_field}
use Rattle.plc_encoding.proofs.freshness.push_unmarked_fields.Given as goal

abbrev pub invariant-loop-f : goal.invariant-loop-f
invariant-loop-f l =
    written_all l.initial.out (map unmarked_field l.fields)
    ≡ written_all l.out (map unmarked_field (drop l.f-index l.fields))
