use Rattle.plc_outparse.specs.Meaning.{literal_means}
use Rattle.plc_outparse.proofs.term.literal.Goals as goal

pub returns-in-Not : goal.returns-in-Not
unfolding literal_means
returns-in-Not c = rw c.in-Not.is c.flag-in-Not.ensures
