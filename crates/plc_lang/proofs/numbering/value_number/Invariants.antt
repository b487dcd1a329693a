use Rattle.std.proofs.Common.{◌≡◌, ◌+◌, drop}
use Rattle.std.specs.List.{sum_by}
use Rattle.plc_lang.specs.Numbering.{values_in}
use Rattle.plc_lang.proofs.numbering.value_number.Given as goal

abbrev pub invariant-loop-earlier : goal.invariant-loop-earlier
invariant-loop-earlier l = (l.before + sum_by values_in (drop l.earlier-index l.earlier-items) ≡ sum_by values_in l.earlier-items)
