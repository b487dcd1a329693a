use Rattle.std.proofs.Common.{◌≡◌, drop}
use Rattle.plc_answers.specs.Typings.{operation_from}
use Rattle.plc_answers.proofs.typings.operation_of.Given as goal

abbrev pub invariant-loop-gate : goal.invariant-loop-gate
invariant-loop-gate l = (l.operation ≡ l.gate-index) × (operation_from l.operation (drop l.gate-index l.gates) l.point.0 ≡ operation_from 0 l.gates l.point.0)
