use Rattle.plc_oblig.specs.Programs.{Serves}
use Rattle.plc_verify.specs.Tests.{NotedClose}
use Rattle.plc_verify.proofs.Closing.{IsAt}
use Rattle.plc_verify.proofs.trees.try_each.Given as goal

abbrev pub invariant-loop-i : goal.invariant-loop-i
invariant-loop-i l =
    IsAt l.evidence.program.flow.now l.evidence.program.outline.now l.evidence.trees.now l.i l.walk × NotedClose l.evidence.program.flow.now l.evidence.program.outline.now l.evidence.trees.now l.tried
    × Serves l.memory l.evidence.program
