use Rattle.std.proofs.Common.{arith}
use Rattle.plc_sched.proofs.WordsOfEntries.{lines_are}
use Rattle.plc_sched.proofs.entries.read_entry.Goals as goal

pub returns-clause-ok : goal.returns-clause-ok
returns-clause-ok c = lines_are c.args.threads c.args.line.now c.read_words.result (omega (arith, c.ranges.threads)) c.read_words.ensures.ok
