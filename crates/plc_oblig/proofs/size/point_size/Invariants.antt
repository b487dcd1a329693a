use Rattle.std.proofs.Common.{◌≡◌, ◌+◌, ◌*◌, ◌≤◌, drop, map, filter, sum_by}
use Rattle.plc_logic.specs.declared.clause.Item.{Item}
use Rattle.plc_vocabulary.specs.Points.{stands_at, clauses_at}
use Rattle.plc_oblig.specs.Size.{clause_size, most_instances}
use Rattle.plc_oblig.proofs.size.point_size.Given as goal

abbrev pub invariant-loop-item : goal.invariant-loop-item
invariant-loop-item l = record {
  counted : l.total + sum_by (clause_size l.places) (map (λ (i : Item). i.clause) (filter (stands_at l.flow l.p) (drop l.item-index l.outline.items)))
      ≡ sum_by (clause_size l.places) (clauses_at l.flow l.outline l.p);
  few : l.total ≤ l.item-index * most_instances;
}
