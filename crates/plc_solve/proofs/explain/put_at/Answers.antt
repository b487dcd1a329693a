use Rattle.std.proofs.Common.{arith}
use Rattle.plc_solve.proofs.Needing.{puts_more}
use Rattle.plc_solve.proofs.explain.put_at.Goals as goal

pub put-requires-clause-range : goal.put-requires-clause-range
put-requires-clause-range c = (c.requires.fit c.args.k _ (omega arith)).range

pub returns : goal.returns
returns c =
    puts_more c.args.set.now c.args.branch.now c.args.core.now.items c.push.new.self.items c.put.new.equal.class c.args.k _ (omega arith) c.requires.puts.within
    c.in_ok-push.ensures.items (c.in_ok-put.ensures.closure c.args.core.now.items c.requires.puts.closure)
