use Rattle.std.proofs.Common.{◌≡◌, ◌≤◌, drop}
use Rattle.plc_flow.specs.Lowering.{ops_made}
use Rattle.plc_flow.proofs.Remaining.{LeftOps}
use Rattle.plc_flow.proofs.lowering.lower_ops.Given as goal

abbrev pub invariant-loop-op : goal.invariant-loop-op
invariant-loop-op l = record {
  left : LeftOps l.initial.out l.out l.gates (ops_made 0 l.ops l.initial.out.points) (ops_made l.id (drop l.op-index l.ops) l.out.points);
  counted : l.id ≡ l.op-index;
  at_least : l.id ≤ l.out.points;
}
