use Rattle.std.proofs.Common.{◌≡◌, ◌++◌, drop, map}
use Rattle.plc_flow.specs.declared.flow.Gate.{Gate}
use Rattle.plc_infer.proofs.program.entries.Given as goal

abbrev pub invariant-loop-gate : goal.invariant-loop-gate
invariant-loop-gate l = l.entries.items ++ map (λ (g : Gate). g.entry) (drop l.gate-index l.gates) ≡ map (λ (g : Gate). g.entry) l.flow.gates
