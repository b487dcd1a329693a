use Rattle.std.proofs.Common.{ℕ, ◌<◌, ◌≤◌}
use Rattle.plc_explore.specs.Following.{IsAny}
use Rattle.plc_explore.specs.Leaving.{IsNeeded}
use Rattle.plc_explore.proofs.shortening.leave_from.Given as goal

abbrev pub invariant-loop-k : goal.invariant-loop-k
invariant-loop-k g l = record {
  any : IsAny l.fn.frees → IsAny l.frees;
  needed : IsAny l.fn.frees → (to : ℕ) → l.from < to → to ≤ l.k
      → IsNeeded l.program l.run.threads l.run.moves l.from to;
}
