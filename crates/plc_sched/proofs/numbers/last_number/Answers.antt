use Rattle.std.proofs.Common.{rules}
use Rattle.plc_sched.specs.Words.{words_left}
use Rattle.plc_sched.proofs.WordsThatRemain.{words_remain, more_than_one}
use Rattle.plc_sched.proofs.numbers.last_number.Goals as goal

pub returns-else-is_none : goal.returns-else-is_none
returns-else-is_none c = λ n low high e.
    more_than_one n c.in_ok-number.number (words_left c.in_ok-number.rest) (words_left c.args.words) (words_remain c.in_ok-number.rest (search rules)) c.in_ok-number.ensures.2 e
