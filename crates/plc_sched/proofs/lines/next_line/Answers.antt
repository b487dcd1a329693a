use Rattle.std.proofs.Common.{rules}
use Rattle.plc_sched.proofs.LinesInOrder.{no_lines, line_ended, line_open}
use Rattle.plc_sched.proofs.lines.next_line.Goals as goal

pub returns-then-is_empty-clause-none : goal.returns-then-is_empty-clause-none
returns-then-is_empty-clause-none c = no_lines c.args.bytes.now (search rules)

pub returns-in-Some-clause-some : goal.returns-in-Some-clause-some
returns-in-Some-clause-some c = line_ended c.args.bytes.now c.cut.result.0.now _ (rw c.in-Some.is at c.cut.ensures.pieces)

pub returns-in-None-clause-some : goal.returns-in-None-clause-some
returns-in-None-clause-some c = line_open c.args.bytes.now c.cut.result.0.now (search rules) (rw c.in-None.is at c.cut.ensures.pieces)
