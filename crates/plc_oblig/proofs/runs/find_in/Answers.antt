use Rattle.plc_oblig.proofs.Joined.{run_found, run_passed, runs_passed}
use Rattle.plc_oblig.proofs.runs.find_in.Goals as goal

pub returns-then-left-count : goal.returns-then-left-count
returns-then-left-count c =
    run_found c.args.o.flow.now c.args.o.outline.now c.args.group c.args.part c.args.number c.loop-k.k c.loop-k.left c.loop-k.invariant
    c.count_in-count.result (rw c.parts_of-k-end.ensures at c.loop-k-test.true) c.count_in-count.ensures c.if-left-count.true

pub loop-k-preserved : goal.loop-k-preserved
loop-k-preserved c =
    run_passed c.args.o.flow.now c.args.o.outline.now c.args.group c.args.part c.args.number c.loop-k.k c.loop-k.left c.loop-k.invariant
    c.count_in-count.result (rw c.parts_of-k-end.ensures at c.loop-k-test.true) c.count_in-count.ensures c.if-left-count.false

pub returns : goal.returns
returns c =
    runs_passed c.args.o.flow.now c.args.o.outline.now c.args.group c.args.part c.args.number c.loop-k.k c.loop-k.left c.loop-k.invariant
    (rw c.parts_of-k-end.ensures at c.loop-k-test.false)
