use Rattle.plc_at.proofs.Prefixes.{stops_at_one, stops_spell_none}
use Rattle.plc_at.proofs.reading.claim_faults_are_one.Goals as goal

pub returns-clause-one : goal.returns-clause-one
returns-clause-one c = stops_at_one

pub returns-clause-none : goal.returns-clause-none
returns-clause-none c = stops_spell_none
