use Rattle.plc_verify.proofs.Closing.{closed_here, failed_here, all_close, not_done}
use Rattle.plc_verify.proofs.trees.try_each.Goals as goal

pub unreachable-requires : goal.unreachable-requires
unreachable-requires c =
    let e = c.args.evidence.now in
    not_done e.program.flow.now e.program.outline.now e.trees.now c.loop-i.i c.loop-i.walk c.loop-i.invariant.0 c.in_default.ensures.0 c.requires.complete.one_each c.loop-i-test.true

pub returns-in-Some-bad : goal.returns-in-Some-bad
returns-in-Some-bad c =
    let e = c.args.evidence.now in
    let bad = rw c.in-Some-bad.is at c.in_ok-bad.ensures.bad in
    failed_here e.program.flow.now e.program.outline.now e.trees.now c.loop-i.i c.loop-i.walk c.next.new.self c.in-Some.o c.loop-i.invariant.0 c.in-Some.ensures c.loop-i-test.true
    c.in-Some-bad.node bad c.requires.complete.one_each

pub loop-i-preserved : goal.loop-i-preserved
loop-i-preserved c =
    let e = c.args.evidence.now in
    let closes = rw c.in_default-bad.is at c.in_ok-bad.ensures.bad in
    (closed_here e.program.flow.now e.program.outline.now e.trees.now c.loop-i.i c.loop-i.walk c.next.new.self c.in-Some.o c.loop-i.invariant.0 c.in-Some.ensures c.loop-i-test.true closes, c.in_ok-bad.ensures.tried, c.in_ok-bad.ensures.serves)

pub returns : goal.returns
returns c =
    let e = c.args.evidence.now in
    all_close e.program.flow.now e.program.outline.now e.trees.now c.loop-i.i c.loop-i.walk c.loop-i.invariant.0 c.loop-i-test.false c.requires.complete.one_each
