use Rattle.plc_xfer.proofs.ByFacts.{by_facts}
use Rattle.plc_xfer.proofs.laws.conditions_go_by_facts.Goals as goal

pub returns : goal.returns
returns c = by_facts
