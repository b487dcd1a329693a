use Rattle.plc_oblig.proofs.stillness.changes.Goals as goal

pub returns-in-Call : goal.returns-in-Call
returns-in-Call c = rw c.in-Call.is (assumption)
