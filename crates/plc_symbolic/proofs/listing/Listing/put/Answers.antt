use Rattle.std.proofs.Common.{sym}
use Rattle.plc_symbolic.proofs.Places.{put_listed}
use Rattle.plc_symbolic.proofs.listing.Listing.put.Goals as goal

pub returns-in-Some-clause-listed : goal.returns-in-Some-clause-listed
returns-in-Some-clause-listed c = sym (put_listed c.args.self.now c.args.term c.in-Some.ensures.place.0)
