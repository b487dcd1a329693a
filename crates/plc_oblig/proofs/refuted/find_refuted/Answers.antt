use Rattle.std.proofs.Common.{arith}
use Rattle.plc_oblig.proofs.Ending.{ends_short}
use Rattle.plc_oblig.proofs.refuted.find_refuted.Goals as goal

pub returns-clause-none : goal.returns-clause-none
returns-clause-none c = λ d r.
    let short = ends_short c.args.set.now d r.refuted in
    let count = c.len-c-end.ensures in
    let done = c.loop-c-test.false in
    c.loop-c.invariant d (omega arith) r
