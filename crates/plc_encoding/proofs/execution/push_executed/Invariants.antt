use Rattle.std.proofs.Common.{◌≡◌, ◌≤◌, length, drop}
use Rattle.plc_symbolic.specs.Numbering.{written_all}
use Rattle.plc_encoding.specs.Execution.{start, after_all, executed_clauses}
use Rattle.plc_encoding.proofs.execution.push_executed.Given as goal

abbrev pub invariant-loop-a : goal.invariant-loop-a
invariant-loop-a l = record {
  clauses : written_all l.initial.out (executed_clauses l.nodes start l.acts)
      ≡ written_all l.out (executed_clauses l.nodes l.x (drop l.a-index l.acts));
  after : after_all start l.acts ≡ after_all l.x (drop l.a-index l.acts);
  written : length l.x.written ≤ l.a-index;
  loads : l.x.loads ≤ l.a-index;
}
