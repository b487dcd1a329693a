use Rattle.plc_xfer.specs.Rules.{FitsObserver}
use Rattle.plc_page.proofs.untyped.before.Given as goal

abbrev pub invariant-loop-prim : goal.invariant-loop-prim
invariant-loop-prim l = record {
  next : (goal.iterator-loop-prim).can_next l.prim-iterator;
  finite : (goal.iterator-loop-prim).is_finite l.prim-iterator;
  fits : FitsObserver l.judged.observer l.env;
}
