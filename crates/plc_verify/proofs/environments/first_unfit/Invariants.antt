use Rattle.std.proofs.Common.{◌≡◌, ℕ, ◌<◌, ◌≤◌, true}
use Rattle.plc_xfer.specs.Typings.{env_at}
use Rattle.plc_verify.specs.Tests.{env_fits}
use Rattle.plc_verify.proofs.environments.first_unfit.Given as goal

abbrev pub invariant-loop-p : goal.invariant-loop-p
invariant-loop-p l = (q : ℕ) → l.fn.gate.first ≤ q → q < l.p → env_fits l.observer l.locals (env_at l.envs q) ≡ true
