use Rattle.std.proofs.lemmas.Option.{slice_get_within}
use Rattle.plc_ground.proofs.equalities.application_at.Goals as goal

pub returns-clause-range : goal.returns-clause-range
returns-clause-range c = slice_get_within c.args.set.now.terms _ _ ((c.requires.list.2.each c.args.k 0 c.requires.place).1)
