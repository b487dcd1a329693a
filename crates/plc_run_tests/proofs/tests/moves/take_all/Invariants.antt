use Rattle.plc_run.specs.Position.{IsOfRun}
use Rattle.plc_run_tests.proofs.tests.moves.take_all.Given as goal

abbrev pub invariant-loop-moves : goal.invariant-loop-moves
invariant-loop-moves l = IsOfRun l.flow l.observer l.config
