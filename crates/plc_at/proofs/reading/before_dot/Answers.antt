use Rattle.plc_at.proofs.ReadingSteps.{dot_due}
use Rattle.plc_at.proofs.reading.before_dot.Goals as goal

pub returns-else-is_symbol : goal.returns-else-is_symbol
returns-else-is_symbol c = λ flow o f h ts g.
    let yes = c.is_symbol.ensures.1 (dot_due flow o c.args.claim c.args.location h c.args.kind.now ts g.0 g.1) in
    let none = c.if-is_symbol.false in
    cc
