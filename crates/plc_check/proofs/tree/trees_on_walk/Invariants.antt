use Rattle.std.proofs.Common.{length}
use Rattle.plc_oblig.specs.Programs.{Serves}
use Rattle.plc_check.specs.Counterexamples.{NotedHaveTrees}
use Rattle.plc_check.proofs.Matching.{TreesSoFar}
use Rattle.plc_check.proofs.tree.trees_on_walk.Given as goal

abbrev pub invariant-loop-obligation : goal.invariant-loop-obligation
invariant-loop-obligation l = TreesSoFar l.program.flow.now l.program.outline.now l.walk l.trees × NotedHaveTrees l.program.flow.now l.program.outline.now l.trees l.noted
    × Serves l.memory l.program

abbrev pub decreases-loop-obligation : goal.decreases-loop-obligation
decreases-loop-obligation l = length l.walk
