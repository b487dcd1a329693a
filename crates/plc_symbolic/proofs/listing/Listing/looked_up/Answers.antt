use Rattle.plc_symbolic.proofs.Places.{found, not_found}
use Rattle.plc_symbolic.proofs.listing.Listing.looked_up.Goals as goal

pub unreachable-requires : goal.unreachable-requires
unreachable-requires c = not_found c.self.inside.terms.keys c.args.self.now c.args.term c.self.view_is c.in-None.ensures.index c.requires.listed

pub returns : goal.returns
returns c = (found c.self.inside.terms.keys c.args.self.now c.args.term c.in-Some.at c.self.view_is c.in-Some.ensures.index).1
