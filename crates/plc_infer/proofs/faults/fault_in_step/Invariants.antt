use Rattle.std.proofs.Common.{◌≡◌, ℕ, ◌+◌, ◌<◌, None, drop}
use Rattle.plc_xfer.specs.Rules.{FitsObserver}
use Rattle.plc_xfer.specs.Typings.{fault_at}
use Rattle.plc_infer.proofs.faults.fault_in_step.Given as goal

abbrev pub invariant-loop-i : goal.invariant-loop-i
invariant-loop-i l = record {
  fits : FitsObserver l.observer l.env;
  none_before : (j : ℕ) → j < l.i → fault_at l.observer l.fn.env l.prims j ≡ None;
  from_here : (j : ℕ) → fault_at l.observer l.fn.env l.prims (l.i + j) ≡ fault_at l.observer l.env (drop l.i l.prims) j;
}
