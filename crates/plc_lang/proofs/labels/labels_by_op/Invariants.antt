use Rattle.std.proofs.Common.{◌≡◌, ◌++◌, drop}
use Rattle.plc_lang.specs.Labels.{labels_by_op}
use Rattle.plc_lang.proofs.labels.labels_by_op.Given as goal

abbrev pub invariant-loop-op : goal.invariant-loop-op
invariant-loop-op l = l.by_op ++ labels_by_op (drop l.op-index l.ops) ≡ labels_by_op l.ops
