use Rattle.std.proofs.Common.{◌≡◌, ◌≤◌, ◌+◌, ◌*◌, length}
use Rattle.plc_oblig.specs.Obligations.{obligations}
use Rattle.plc_oblig.specs.Runs.{from_group}
use Rattle.plc_oblig.proofs.counting.count.Given as goal

abbrev pub invariant-loop-g : goal.invariant-loop-g
invariant-loop-g l = record {
  counted : l.total + length (from_group l.flow l.outline l.g 0) ≡ length (obligations l.flow l.outline);
  few : l.total ≤ l.g * (65536 * 65536);
}
