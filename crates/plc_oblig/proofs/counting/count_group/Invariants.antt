use Rattle.std.proofs.Common.{◌≡◌, ◌≤◌, ◌+◌, ◌*◌, length}
use Rattle.plc_oblig.specs.Runs.{from_part, runs}
use Rattle.plc_oblig.proofs.counting.count_group.Given as goal

abbrev pub invariant-loop-k : goal.invariant-loop-k
invariant-loop-k l = record {
  counted : l.total + length (from_part l.fn.o.flow.now l.fn.o.outline.now l.group l.k) ≡ length (runs l.fn.o.flow.now l.fn.o.outline.now l.group);
  few : l.total ≤ l.k * 65536;
}
