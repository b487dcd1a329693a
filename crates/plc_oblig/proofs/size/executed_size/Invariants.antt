use Rattle.std.proofs.Common.{◌≡◌, ◌+◌, ◌*◌, ◌≤◌, drop, sum_by}
use Rattle.plc_oblig.specs.Size.{prim_size, most_of_primitive}
use Rattle.plc_oblig.proofs.size.executed_size.Given as goal

abbrev pub invariant-loop-prim : goal.invariant-loop-prim
invariant-loop-prim l = record {
  counted : l.total + sum_by (prim_size l.marked l.nodes) (drop l.prim-index l.prims)
      ≡ sum_by (prim_size l.marked l.nodes) l.prims;
  few : l.total ≤ l.prim-index * most_of_primitive;
}
