-- `bad` is never left, so that the end of a history tells of its prefixes.
use Rattle.plc_auto.proofs.Histories.{by_the_last}
use Rattle.plc_auto.proofs.laws.histories_are_judged_by_the_last.Goals as goal

pub returns : goal.returns
returns c = by_the_last
