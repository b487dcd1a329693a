use Rattle.std.proofs.Common.{◌≡◌, ◌≤◌, false, drop, length}
use Rattle.plc_run.specs.Position.{threads_of}
use Rattle.plc_explore.specs.Following.{IsAny, RacesFrom}
use Rattle.plc_explore.specs.Running.{IsRunOf}
use Rattle.plc_explore.specs.Walking.{IsWalked}
use Rattle.plc_explore.proofs.follow.Made.make_all.Given as goal

abbrev pub invariant-loop-m : goal.invariant-loop-m
invariant-loop-m g l = record {
  of_run : IsRunOf l.program l.config;
  many : threads_of l.config ≡ threads_of l.fn.config;
  walked : IsWalked l.program l.self.moves l.config;
  no_longer : length l.self.moves ≤ l.m-index;
  any : IsAny l.fn.frees → IsAny l.frees;
  goes : IsAny l.fn.frees → l.fn.config.ended ≡ false → l.config.ended ≡ false;
  none : IsAny l.fn.frees → l.fn.config.ended ≡ false → RacesFrom l.program l.fn.config l.moves
      → RacesFrom l.program l.config (drop l.m-index l.moves);
}
