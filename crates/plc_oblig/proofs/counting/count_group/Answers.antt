use Rattle.std.proofs.Common.{arith}
use Rattle.plc_oblig.proofs.Joined.{run_counted, runs_counted}
use Rattle.plc_oblig.proofs.counting.count_group.Goals as goal

pub loop-k-preserved : goal.loop-k-preserved
loop-k-preserved c = record {
  counted = run_counted c.args.o.flow.now c.args.o.outline.now c.args.group c.loop-k.k c.count_in.result c.loop-k.total _
      (rw c.parts_of-k-end.ensures at c.loop-k-test.true) c.count_in.ensures c.loop-k.invariant.counted;
  few = omega (arith, c.loop-k.invariant.few);
}

pub returns-clause-count : goal.returns-clause-count
returns-clause-count c =
    runs_counted c.args.o.flow.now c.args.o.outline.now c.args.group c.loop-k.k c.loop-k.total _ (rw c.parts_of-k-end.ensures at c.loop-k-test.false) c.loop-k.invariant.counted
