use Rattle.std.proofs.Common.{arith}
use Rattle.plc_solve.proofs.choice.is_open.Goals as goal

pub must_differ-requires-clause-first : goal.must_differ-requires-clause-first
must_differ-requires-clause-first c =
    let e = c.requires.classed.no_later c.args.l.left (omega (arith, c.requires.range.0, c.requires.classed.one_each)) in omega (arith, e, c.requires.range.0)

pub must_differ-requires-clause-second : goal.must_differ-requires-clause-second
must_differ-requires-clause-second c =
    let e = c.requires.classed.no_later c.args.l.right (omega (arith, c.requires.range.1, c.requires.classed.one_each)) in omega (arith, e, c.requires.range.1)
