use Rattle.std.proofs.lemmas.Bool.{ne_eqb}
use Rattle.plc_auto.proofs.hearing.has_row.Goals as goal

pub returns-else-a-eq0 : goal.returns-else-a-eq0
returns-else-a-eq0 c = rw (ne_eqb c.args.a 0 c.if-a-eq0.false) c.holds_row.ensures
