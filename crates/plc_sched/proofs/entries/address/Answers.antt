use Rattle.std.proofs.Common.{rules}
use Rattle.plc_sched.specs.Words.{words_left}
use Rattle.plc_sched.proofs.WordsThatRemain.{words_remain, no_address}
use Rattle.plc_sched.proofs.entries.address.Goals as goal

pub returns-in_err-address : goal.returns-in_err-address
returns-in_err-address c = rw c.from_residual.ensures (no_address (words_left c.args.words) (words_remain c.args.words (search rules)) c.in_err-address.ensures)
