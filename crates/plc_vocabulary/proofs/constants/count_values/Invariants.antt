use Rattle.std.proofs.Common.{◌≡◌, ◌+◌, drop}
use Rattle.std.specs.List.{sum_by}
use Rattle.plc_lang.specs.Numbering.{values_in}
use Rattle.plc_vocabulary.proofs.constants.count_values.Given as goal

abbrev pub invariant-loop-field : goal.invariant-loop-field
invariant-loop-field l = l.count + sum_by values_in (drop l.field-index l.ghosts) ≡ sum_by values_in l.ghosts
