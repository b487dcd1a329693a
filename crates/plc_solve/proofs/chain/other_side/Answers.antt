use Rattle.std.proofs.Common.{◌≡◌, true, arith}
use Rattle.plc_solve.proofs.Needing.{leads_right, leads_left}
use Rattle.plc_solve.proofs.chain.other_side.Goals as goal

pub returns-then-l-at : goal.returns-then-l-at
returns-then-l-at c = let e : c.args.l.equal ≡ true = grind arith in leads_right c.args.l c.args.at e c.if-l-at.true

pub returns-then-l-at-2 : goal.returns-then-l-at-2
returns-then-l-at-2 c = let e : c.args.l.equal ≡ true = grind arith in leads_left c.args.l c.args.at e c.if-l-at-2.true
