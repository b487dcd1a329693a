use Rattle.plc_ground.proofs.Changing.{settles_more, congruent_settled}
use Rattle.plc_ground.proofs.equalities.settle.Goals as goal

pub clashes-preserved : goal.clashes-preserved
clashes-preserved c = settles_more c.args.set.now.terms c.args.equal.now c.clashes.equal c.settle_in.new.equal c.clashes.invariant c.in_ok-settle_in.ensures.settles

pub returns-clause-settled : goal.returns-clause-settled
returns-clause-settled c = congruent_settled c.args.set.now.terms c.clashes.equal.class c.clashes.equal.joined c.in_default.ensures.none c.clashes.invariant.left
