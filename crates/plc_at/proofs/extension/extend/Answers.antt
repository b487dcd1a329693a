use Rattle.std.proofs.Common.{arith}
use Rattle.plc_at.proofs.ExtendedFits.{extended_fits}
use Rattle.plc_at.proofs.extension.extend.Goals as goal

pub returns-clause-fits : goal.returns-clause-fits
returns-clause-fits c =
    let a = c.args in
    rw c.in_ok-add_items.ensures
    (extended_fits a.flow.now a.observer.now a.typing.now a.claims.now a.outline c.requires.outline c.requires.claims
    (let few = c.in_ok-addable.ensures.few in let count = c.len.ensures in omega arith))
