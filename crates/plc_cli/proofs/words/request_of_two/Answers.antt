use Rattle.std.proofs.Common.{refl}
use Rattle.plc_cli.proofs.words.request_of_two.Goals as goal

pub returns-in-print-clause-asks : goal.returns-in-print-clause-asks
returns-in-print-clause-asks c = rw c.in-print.is refl
