use Rattle.std.proofs.Common.{arith}
use Rattle.plc_outside.proofs.FailureCounts.{times-push_other, times-push_same}
use Rattle.plc_outside.proofs.failures.FailedReads.note.Goals as goal

pub returns-in-Ok-clause-others : goal.returns-in-Ok-clause-others
returns-in-Ok-clause-others c = λ other h. rw c.in-Ok.ensures.ok (times-push_other c.args.self.now c.args.name.now other h)

pub returns-in-Ok-clause-later : goal.returns-in-Ok-clause-later
returns-in-Ok-clause-later c = rw c.in-Ok.ensures.ok (omega (arith, times-push_same c.args.self.now c.args.name.now))

pub returns-in-Ok-clause-rose : goal.returns-in-Ok-clause-rose
returns-in-Ok-clause-rose c = λ _. rw c.in-Ok.ensures.ok (omega (arith, times-push_same c.args.self.now c.args.name.now))
