use Rattle.std.proofs.Common.{◌≡◌, drop}
use Rattle.plc_xfer.specs.Rules.{env_after_all, FitsObserver}
use Rattle.plc_infer.proofs.fixpoint.led_from.Given as goal

abbrev pub invariant-loop-prim : goal.invariant-loop-prim
invariant-loop-prim l = record {
  fits : FitsObserver l.observer l.reached;
  so_far : env_after_all l.observer l.reached (drop l.prim-index l.prims) ≡ env_after_all l.observer l.env l.prims;
}
