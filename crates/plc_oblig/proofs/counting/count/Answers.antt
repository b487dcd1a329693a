use Rattle.std.proofs.Common.{length, ap, arith}
use Rattle.plc_oblig.proofs.Joined.{all_left, group_counted, groups_counted}
use Rattle.plc_oblig.proofs.counting.count.Goals as goal

pub loop-g-init : goal.loop-g-init
loop-g-init c = record {
  counted = let l = ap length (all_left c.args.flow.now c.args.outline.now) in omega arith;
  few = omega arith;
}

pub loop-g-preserved : goal.loop-g-preserved
loop-g-preserved c = record {
  counted = group_counted c.args.flow.now c.args.outline.now c.loop-g.g c.count_knowing-total.result c.loop-g.total _
      c.group_at.result c.group_at.ensures c.count_knowing-total.ensures.count c.loop-g.invariant.counted;
  few = omega (arith, c.loop-g.invariant.few, c.count_knowing-total.ensures.few);
}

pub returns : goal.returns
returns c = groups_counted c.args.flow.now c.args.outline.now c.loop-g.g c.loop-g.total _ (rw c.group_count-g-end.ensures at c.loop-g-test.false) c.loop-g.invariant.counted
