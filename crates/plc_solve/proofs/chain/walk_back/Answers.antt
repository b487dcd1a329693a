use Rattle.std.proofs.Common.{arith}
use Rattle.plc_solve.proofs.Needing.{chain_first, chain_more}
use Rattle.plc_solve.proofs.chain.walk_back.Goals as goal

pub loop-init : goal.loop-init
loop-init c = chain_first c.args.set.now c.args.branch.now c.args.way.now.items c.args.pair.b c.requires.none

pub loop-preserved : goal.loop-preserved
loop-preserved c =
    chain_more c.args.set.now c.args.branch.now c.loop.way.items c.push.new.self.items c.loop.at c.in-Some.next
    c.args.pair.b c.place_at-k.result _ (omega arith) c.loop.invariant c.in-Some.ensures
    c.in_ok-push.ensures.items
