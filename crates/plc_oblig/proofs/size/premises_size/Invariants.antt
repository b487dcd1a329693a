use Rattle.std.proofs.Common.{◌≡◌, ◌+◌, ◌*◌, ◌≤◌, drop, sum_by}
use Rattle.plc_oblig.specs.Size.{clause_size, most_instances}
use Rattle.plc_oblig.proofs.size.premises_size.Given as goal

abbrev pub invariant-loop-clause : goal.invariant-loop-clause
invariant-loop-clause l = record {
  counted : l.total + sum_by (clause_size l.places) (drop l.clause-index l.clauses) ≡ sum_by (clause_size l.places) l.clauses;
  few : l.total ≤ l.clause-index * most_instances;
}
