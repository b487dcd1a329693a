use Rattle.std.proofs.Common.{◌≡◌, ℕ, ◌+◌, ◌<◌, None, drop}
use Rattle.plc_xfer.specs.Rules.{env_after_all, FitsObserver}
use Rattle.plc_xfer.specs.Typings.{fault_at}
use Rattle.plc_infer.proofs.resuming.run.Given as goal

abbrev pub invariant-loop-prim : goal.invariant-loop-prim
invariant-loop-prim l = record {
  fits : FitsObserver l.observer l.reached;
  none_before : (j : ℕ) → j < l.prim-index → fault_at l.observer l.env l.prims j ≡ None;
  from_here : (j : ℕ) → fault_at l.observer l.env l.prims (l.prim-index + j) ≡ fault_at l.observer l.reached
      (drop l.prim-index l.prims) j;
  so_far : env_after_all l.observer l.reached (drop l.prim-index l.prims) ≡ env_after_all l.observer l.env l.prims;
}
