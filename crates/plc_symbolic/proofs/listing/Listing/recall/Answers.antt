use Rattle.plc_symbolic.proofs.Places.{recalled}
use Rattle.plc_symbolic.proofs.listing.Listing.recall.Goals as goal

pub returns-then-eq-clause-place : goal.returns-then-eq-clause-place
returns-then-eq-clause-place c =
    recalled c.self.inside.terms.keys c.args.self.now c.args.term c.in_ok-listed.listed.now c.in_ok-at.at c.self.view_is c.self.invariant
    c.in_ok-listed.ensures.key (cc (c.eq.ensures, c.if-eq.true))
