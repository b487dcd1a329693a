use Rattle.plc_explore.specs.Following.{IsAny}
use Rattle.plc_explore.proofs.shortening.leave_most.Given as goal

abbrev pub invariant-loop-k : goal.invariant-loop-k
invariant-loop-k g l = IsAny l.fn.frees → IsAny l.frees
