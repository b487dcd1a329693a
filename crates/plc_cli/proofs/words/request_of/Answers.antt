use Rattle.std.proofs.Common.{length}
use Rattle.plc_cli.proofs.words.request_of.Goals as goal

pub returns-in-len3-clause-in_range : goal.returns-in-len3-clause-in_range
returns-in-len3-clause-in_range g c = c.request_of_three.ensures.in_range (length c.args.reclaimers.now)
