use Rattle.std.proofs.Common.{◌≡◌, drop}
use Rattle.plc_lang.specs.Numbering.{value_from, value_at}
use Rattle.plc_lang.proofs.numbering.value_at.Given as goal

abbrev pub invariant-loop-place : goal.invariant-loop-place
invariant-loop-place l = value_from l.place (drop l.place l.fields) l.left ≡ value_at l.fields l.number
