use Rattle.std.proofs.Common.{◌≡◌, replicate, []}
use Rattle.plc_flow.proofs.steps_by_point.no_steps.Given as goal

abbrev pub invariant-loop : goal.invariant-loop
invariant-loop l = l.rows.items ≡ replicate l.counter []
