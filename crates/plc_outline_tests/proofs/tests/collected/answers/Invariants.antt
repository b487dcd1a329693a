use Rattle.plc_gc.specs.Position.{IsOfRun}
use Rattle.plc_outline_tests.proofs.tests.collected.answers.Given as goal

abbrev pub invariant-loop-line : goal.invariant-loop-line
invariant-loop-line l = IsOfRun l.judged.flow l.config
