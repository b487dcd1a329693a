use Rattle.std.proofs.Common.{sym}
use Rattle.plc_symbolic.proofs.Noting.{note_listed}
use Rattle.plc_symbolic.proofs.listing.Listing.note.Goals as goal

pub returns-in-Some-clause-listed : goal.returns-in-Some-clause-listed
returns-in-Some-clause-listed c = sym (note_listed c.args.self.now c.args.term c.recall.ensures.tidy c.in-Some.ensures.place.0)
