use Rattle.std.proofs.Common.{◌≡◌, ◌++◌, drop, map}
use Rattle.plc_flow.specs.declared.flow.Step.{Step}
use Rattle.plc_flow.proofs.steps_by_point.first_points.Given as goal

abbrev pub invariant-loop-step : goal.invariant-loop-step
invariant-loop-step l = l.firsts.items ++ map (λ (s : Step). s.from) (drop l.step-index l.steps) ≡ map (λ (s : Step). s.from) l.flow.steps
