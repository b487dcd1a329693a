use Rattle.std.proofs.Common.{◌≡◌}
use Rattle.plc_run.specs.Position.{threads_of}
use Rattle.plc_explore.specs.Running.{IsRunOf}
use Rattle.plc_explore.specs.Walking.{IsWalked}
use Rattle.plc_explore.proofs.walker.Walker.step.Given as goal

abbrev pub invariant-loop-k : goal.invariant-loop-k
invariant-loop-k g l = record {
  of_run : IsRunOf l.program l.run.config;
  many : threads_of l.run.config ≡ threads_of l.fn.run.config;
  walked : IsWalked l.program l.self.moves l.run.config;
}
