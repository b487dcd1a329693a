use Rattle.std.proofs.Common.{◌≡◌, ◌++◌, drop}
use Rattle.plc_gc.specs.Claims.{claims}
use Rattle.plc_gc.specs.Ranges.{IsInRange}
use Rattle.plc_gc.specs.Fit.{IsHeld, frame}
use Rattle.plc_gc.proofs.execute.note_claims.Given as goal

abbrev pub invariant-loop-k : goal.invariant-loop-k
invariant-loop-k l = record {
  same : l.truths.items ++ claims l.state l.t (drop l.k l.prims) ≡ l.fn.truths.items ++ claims l.fn.state l.t l.prims;
  held : IsHeld l.state l.t;
  frame : frame l.state l.t ≡ frame l.fn.state l.t;
  ranges : IsInRange l.state;
}
