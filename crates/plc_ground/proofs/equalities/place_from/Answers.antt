use Rattle.std.proofs.Common.{arith, below_more, ◌≢◌, ◌≤◌, IsTrue, slice_index}
use Rattle.plc_ground.proofs.equalities.place_from.Goals as goal

pub loop-k-init : goal.loop-k-init
loop-k-init c = λ n lt le. absurd (omega arith)

pub loop-k-preserved : goal.loop-k-preserved
loop-k-preserved c =
    below_more (λ n. c.args.start ≤ n → slice_index c.args.class.now (slice_index c.args.list.now n) ≢ c.args.x) c.loop-k.k c.loop-k.invariant
    (λ le e. let t : IsTrue c.is_at.result = c.is_at.ensures.no e in let f = c.if-is_at.false in absurd (grind arith))

pub returns-clause-none : goal.returns-clause-none
returns-clause-none c = λ n nl. c.loop-k.invariant n (omega arith)
