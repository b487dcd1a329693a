use Rattle.std.proofs.Common.{◌≡◌, ◌++◌, drop, map}
use Rattle.plc_infer.specs.declared.program.Edge.{Edge}
use Rattle.plc_infer.proofs.program.first_points.Given as goal

abbrev pub invariant-loop-step : goal.invariant-loop-step
invariant-loop-step l = l.firsts.items ++ map (λ (e : Edge). e.from) (drop l.step-index l.steps) ≡ map (λ (e : Edge). e.from) l.program.steps.now
