use Rattle.std.proofs.Common.{rules}
use Rattle.plc_sched.specs.Words.{words_left}
use Rattle.plc_sched.proofs.WordsThatRemain.{head_is}
use Rattle.plc_sched.proofs.reading.head_of.Goals as goal

pub returns-then-eq : goal.returns-then-eq
returns-then-eq c =
    head_is c.args.line.now c.in_ok-kind.kind.now (words_left c.in_ok-kind.words) c.last_number.result c.in_ok-kind.ensures.some (search rules) c.last_number.ensures
