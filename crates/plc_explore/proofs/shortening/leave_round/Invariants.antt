use Rattle.plc_explore.specs.Following.{IsAny}
use Rattle.plc_explore.proofs.shortening.leave_round.Given as goal

abbrev pub invariant-loop-from : goal.invariant-loop-from
invariant-loop-from g l = IsAny l.fn.frees → IsAny l.frees
