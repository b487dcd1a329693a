use Rattle.plc_at.specs.Reading.{AreOpsAmong}
use Rattle.plc_at.proofs.names.ops_among.Given as goal

abbrev pub invariant-loop-label : goal.invariant-loop-label
invariant-loop-label l = AreOpsAmong l.by_op l.label l.ops.items
