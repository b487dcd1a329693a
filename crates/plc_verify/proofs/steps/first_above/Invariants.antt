use Rattle.std.proofs.Common.{ℕ, ◌<◌}
use Rattle.plc_verify.specs.Environments.{LocalBelow}
use Rattle.plc_verify.proofs.steps.first_above.Given as goal

abbrev pub invariant-loop-v : goal.invariant-loop-v
invariant-loop-v l = (u : ℕ) → u < l.v → LocalBelow l.a l.b u
