use Rattle.std.proofs.Common.{◌≤◌, length}
use Rattle.plc_oblig.specs.Programs.{Serves}
use Rattle.plc_check.specs.Counterexamples.{NotedAreKept}
use Rattle.plc_check.proofs.Found.{FoundSoFar}
use Rattle.plc_check.proofs.open.find_on_walk.Given as goal

abbrev pub invariant-obligations : goal.invariant-obligations
invariant-obligations l = record {
  so_far : FoundSoFar l.program.flow.now l.program.outline.now l.walk l.found;
  noted : NotedAreKept l.program.flow.now l.program.outline.now l.kept;
  serves : Serves l.memory l.program;
  few : length l.found ≤ l.most;
}

abbrev pub decreases-obligations : goal.decreases-obligations
decreases-obligations l = length l.walk
