use Rattle.std.proofs.Common.{Ok, ap, refl}
use Rattle.plc_ground.proofs.Changing.{settles_done}
use Rattle.plc_ground.proofs.equalities.settle_in.Goals as goal

pub returns-clause-settles : goal.returns-clause-settles
returns-clause-settles c =
    let none = c.in_ok-sweep.ensures.none (ap Ok c.if-branch.false) in
    (settles_done c.args.set.now.terms c.args.equal.now c.sweep.new.equal _ c.args.x c.requires.some c.requires.newest (none.0) (none.1) c.requires.left refl refl (let e = c.truncate.ensures in let n = c.len.ensures in cc)).0

pub returns-clause-smaller : goal.returns-clause-smaller
returns-clause-smaller c =
    let none = c.in_ok-sweep.ensures.none (ap Ok c.if-branch.false) in
    (settles_done c.args.set.now.terms c.args.equal.now c.sweep.new.equal _ c.args.x c.requires.some c.requires.newest (none.0) (none.1) c.requires.left refl refl (let e = c.truncate.ensures in let n = c.len.ensures in cc)).1
