use Rattle.std.proofs.Common.{arith}
use Rattle.plc_auto.proofs.Moving.{recounted, counted, placed}
use Rattle.plc_auto.proofs.row.Row.move_one.Goals as goal

pub recounted-self-inside-requires-clause-counted : goal.recounted-self-inside-requires-clause-counted
recounted-self-inside-requires-clause-counted c = λ kept.
    let some = counted c.self.inside.at.items c.args.i c.index-before.result.now (omega (arith, c.self.inside.at.ok.0)) c.index-before.ensures kept in
    omega (arith, some, c.self.invariant)

pub invariant_of-self : goal.invariant_of-self
invariant_of-self c =
    let more = recounted c.self.inside.at.items c.args.i c.index-before.result.now c.moved-after.result (omega (arith, c.self.inside.at.ok.0)) c.index-before.ensures in
    omega (arith, more, c.self.invariant, c.recounted-self-inside.ensures)

pub returns-then-i-len : goal.returns-then-i-len
returns-then-i-len c =
    rw (← c.self.view_is) (λ j. record {
      address = c.self.inside.address;
      retired = c.self.inside.retired;
      at = placed c.args.observer.now c.args.kind c.args.by_own c.args.on_this c.self.inside.at.items c.args.i c.index-before.result.now c.moved-after.result c.index-before.ensures c.moved-after.ensures j;
    })
