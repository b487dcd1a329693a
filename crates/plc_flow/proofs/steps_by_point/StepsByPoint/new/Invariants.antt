use Rattle.std.proofs.Common.{take}
use Rattle.plc_flow.proofs.Indexed.{HasRows}
use Rattle.plc_flow.proofs.steps_by_point.StepsByPoint.new.Given as goal

abbrev pub invariant-loop-k : goal.invariant-loop-k
invariant-loop-k l = HasRows l.points (take l.k l.firsts) l.rows.items
