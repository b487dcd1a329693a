use Rattle.std.proofs.Common.{arith, ◌∙◌, sym}
use Rattle.plc_ground.proofs.Changing.{taken_back_more, taken_back_all}
use Rattle.plc_ground.proofs.equalities.take_back.Goals as goal

pub changes-preserved : goal.changes-preserved
changes-preserved c =
    let h = taken_back_more c.args.mark c.changes.equal c.take_back_one.new.equal (omega arith) c.take_back_one.ensures.trail c.take_back_one.ensures.class in
    record { class = h.0 ∙ c.changes.invariant.class; trail = h.1 ∙ c.changes.invariant.trail }

pub returns-clause-class : goal.returns-clause-class
returns-clause-class c = sym ((taken_back_all c.args.mark c.changes.equal (omega arith)).0) ∙ c.changes.invariant.class

pub returns-clause-trail : goal.returns-clause-trail
returns-clause-trail c = sym ((taken_back_all c.args.mark c.changes.equal (omega arith)).1) ∙ c.changes.invariant.trail
