use Rattle.std.proofs.Common.{arith}
use Rattle.plc_gc.proofs.clauses.thread_number.Goals as goal

pub returns-in-Some : goal.returns-in-Some
returns-in-Some c = rw c.in-Some.is (omega arith)
