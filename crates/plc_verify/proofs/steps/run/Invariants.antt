use Rattle.plc_xfer.specs.Rules.{FitsObserver}
use Rattle.plc_verify.specs.Environments.{with_shared}
use Rattle.plc_verify.proofs.Runs.{IsUnderWay}
use Rattle.plc_verify.proofs.steps.run.Given as goal

abbrev pub invariant-loop-i : goal.invariant-loop-i
invariant-loop-i l = record {
  fits : FitsObserver l.observer l.reached;
  way : IsUnderWay l.observer (with_shared l.shared l.fn.env) l.prims l.i l.reached;
}
