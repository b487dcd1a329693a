use Rattle.std.proofs.Common.{◌≡◌, drop}
use Rattle.plc_symbolic.specs.Numbering.{written_all}
use Rattle.plc_encoding.specs.Items.{field_defaults_from}
use Rattle.plc_encoding.proofs.freshness.push_field_defaults.Given as goal

abbrev pub invariant-loop-k : goal.invariant-loop-k
invariant-loop-k l =
    written_all l.initial.out (field_defaults_from 0 l.fields)
    ≡ written_all l.out (field_defaults_from l.k (drop l.k l.fields))
