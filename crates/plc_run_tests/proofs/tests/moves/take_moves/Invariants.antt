use Rattle.plc_run.specs.Position.{IsOfRun}
use Rattle.plc_run_tests.proofs.tests.moves.take_moves.Given as goal

abbrev pub invariant-loop-line : goal.invariant-loop-line
invariant-loop-line l = IsOfRun l.flow l.observer l.config
