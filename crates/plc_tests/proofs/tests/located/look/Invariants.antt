use Rattle.plc_run.specs.Position.{IsOfRun}
use Rattle.plc_tests.proofs.tests.located.look.Given as goal

abbrev pub invariant-loop-round : goal.invariant-loop-round
invariant-loop-round l = IsOfRun l.flow l.observer l.config
