use Rattle.std.proofs.Common.{◌≡◌, drop}
use Rattle.plc_symbolic.specs.Numbering.{written_all}
use Rattle.plc_encoding.specs.Items.{no_field_leads}
use Rattle.plc_encoding.proofs.freshness.push_no_field_of.Given as goal

abbrev pub invariant-loop-f : goal.invariant-loop-f
invariant-loop-f l =
    written_all l.initial.out (no_field_leads l.fields l.node)
    ≡ written_all l.out (no_field_leads (drop l.f-index l.fields) l.node)
