use Rattle.std.proofs.Common.{◌≡◌, drop}
use Rattle.std.specs.List.{position_from}
use Rattle.plc_lang.specs.Labels.{has_label}
use Rattle.plc_lang.proofs.labels.op_of_label.Given as goal

abbrev pub invariant-loop-i : goal.invariant-loop-i
invariant-loop-i l = position_from (has_label l.label) l.i (drop l.i l.by_op) ≡ position_from (has_label l.label) 0 l.by_op
