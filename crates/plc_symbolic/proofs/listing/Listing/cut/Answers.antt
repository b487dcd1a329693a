use Rattle.std.proofs.Common.{sym, subst}
use Rattle.plc_symbolic.specs.Tidy.{IsTidy}
use Rattle.plc_symbolic.proofs.Cutting.{tidy_cut}
use Rattle.plc_symbolic.proofs.listing.Listing.cut.Goals as goal

pub invariant_of-self : goal.invariant_of-self
invariant_of-self c = subst IsTidy (sym c.truncate.ensures.keys) (tidy_cut c.args.len c.self.inside.terms.keys c.self.invariant)
