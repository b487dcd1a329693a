use Rattle.std.proofs.Common.{arith, ◌<◌, length}
use Rattle.std.specs.Prelude.{Any, slice_index}
use Rattle.plc_ground.specs.Model.{HoldsIn, literals}
use Rattle.plc_solve.specs.Search.{IsFalse}
use Rattle.plc_solve.proofs.Searching.{found_is, none_more}
use Rattle.plc_solve.proofs.choice.choose.Goals as goal
use Rattle.plc_solve.proofs.choice.choose.Goals.{then-is_false+else-found-eq0, else-is_false}

pub loop-c-preserved : goal.loop-c-preserved
loop-c-preserved c = elim c.if-is_false.branch [
  | then-is_false+else-found-eq0 w ↦ rw w.best-is (record {
    some = found_is (λ c'. (c' < length c.args.set.now.clauses) × IsFalse c.args.set.now c.args.class.now c') c.loop-c.best c.loop-c.c _ c.loop-c.invariant.some (omega arith, c.is_false.ensures.yes w.if-is_false.true) w.better-found.ensures;
    none = tt;
  })
  | else-is_false w ↦ rw w.best-is (record {
    some = c.loop-c.invariant.some;
    none = none_more (λ c'. Any (HoldsIn (slice_index c.args.class.now)) (literals c.args.set.now c')) c.loop-c.best c.loop-c.c c.loop-c.invariant.none (c.is_false.ensures.no w.if-is_false.false);
  })
]
