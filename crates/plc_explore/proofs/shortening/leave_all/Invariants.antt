use Rattle.std.proofs.Common.{◌≤◌, length}
use Rattle.plc_explore.specs.Following.{IsAny}
use Rattle.plc_explore.specs.Racing.{RacesAmong}
use Rattle.plc_explore.proofs.shortening.leave_all.Given as goal

abbrev pub invariant-loop : goal.invariant-loop
invariant-loop g l = record {
  races : RacesAmong l.program l.run.threads l.run.moves;
  no_longer : length l.run.moves ≤ length l.fn.run.moves;
  any : IsAny l.fn.frees → IsAny l.frees;
}
