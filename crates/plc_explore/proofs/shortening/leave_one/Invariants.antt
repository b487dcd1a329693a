use Rattle.std.proofs.Common.{ℕ, ◌<◌, ◌≤◌, length}
use Rattle.plc_explore.specs.Following.{IsAny}
use Rattle.plc_explore.specs.Leaving.{IsNeeded}
use Rattle.plc_explore.proofs.shortening.leave_one.Given as goal

abbrev pub invariant-loop-from : goal.invariant-loop-from
invariant-loop-from g l = record {
  any : IsAny l.fn.frees → IsAny l.frees;
  needed : IsAny l.fn.frees → (from to : ℕ) → from < l.from → from < to → to ≤ length l.run.moves
      → IsNeeded l.program l.run.threads l.run.moves from to;
}
