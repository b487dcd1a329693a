use Rattle.plc_gc.specs.Position.{IsOfRun}
use Rattle.plc_run.specs.Position.{IsOfRun as IsOfMemoryRun}
use Rattle.plc_outline_tests.proofs.tests.erased.answers.Given as goal

abbrev pub invariant-loop-line : goal.invariant-loop-line
invariant-loop-line l = IsOfMemoryRun l.judged.flow l.judged.observer l.config × IsOfRun l.judged.flow l.collected
