use Rattle.plc_explore.specs.Following.{IsAny}
use Rattle.plc_explore.proofs.shortening.leave_of_one.Given as goal

abbrev pub invariant-loop-t : goal.invariant-loop-t
invariant-loop-t g l = IsAny l.fn.frees → IsAny l.frees
