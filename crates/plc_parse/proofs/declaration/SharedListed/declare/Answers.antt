use Rattle.std.proofs.Common.{arith}
use Rattle.plc_parse.proofs.declaration.SharedListed.declare.Goals as goal

pub returns-clause-read : goal.returns-clause-read
returns-clause-read c = search (arith, c.declare.ensures.read)
