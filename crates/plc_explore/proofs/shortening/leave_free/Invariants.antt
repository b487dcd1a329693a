use Rattle.plc_explore.specs.Following.{IsAny}
use Rattle.plc_explore.proofs.shortening.leave_free.Given as goal

abbrev pub invariant-loop-number : goal.invariant-loop-number
invariant-loop-number g l = IsAny l.fn.frees → IsAny l.frees
