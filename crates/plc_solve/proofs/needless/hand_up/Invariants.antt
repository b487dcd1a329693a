use Rattle.std.proofs.Common.{ℕ, ◌≤◌, ◌∷◌, reverse, vec_len}
use Rattle.plc_ground.specs.declared.terms.Node.TheVariants.{Split}
use Rattle.plc_solve.specs.Search.{Stands, ClosesTop, splits}
use Rattle.plc_solve.specs.Measure.{left_below}
use Rattle.plc_solve.proofs.needless.hand_up.Given as goal

abbrev pub invariant-loop-top : goal.invariant-loop-top
invariant-loop-top l = record {
  stands : Stands l.set l.place (reverse l.frames.items);
  closes : ClosesTop l.set (splits l.place (reverse l.frames.items)) l.done.core.items
      (Split l.done.clause ∷ l.done.nodes.items);
  less : (base : ℕ) → left_below l.set base (splits l.place (reverse l.frames.items)) ≤ left_below l.set base (splits l.fn.place (reverse l.fn.frames.items));
}

abbrev pub decreases-loop-top : goal.decreases-loop-top
decreases-loop-top l = vec_len l.frames
