use Rattle.std.proofs.Common.{rules}
use Rattle.plc_sched.specs.Words.{words_left}
use Rattle.plc_sched.proofs.WordsThatRemain.{words_remain, too_many, not_numbers}
use Rattle.plc_sched.proofs.numbers.numbers.Goals as goal

pub returns-then-len-most-clause-ok : goal.returns-then-len-most-clause-ok
returns-then-len-most-clause-ok c = λ others few each e.
    too_many c.loop-rest.numbers others (words_left c.loop-rest.rest) (words_left c.args.words) (search rules) few (words_remain c.loop-rest.rest (search rules)) c.loop-rest.invariant.read e

pub returns-in_default-clause-ok : goal.returns-in_default-clause-ok
returns-in_default-clause-ok c = λ others few each e.
    not_numbers c.loop-rest.numbers others (words_left c.loop-rest.rest) (words_left c.args.words) (words_remain c.loop-rest.rest (search rules)) c.in_default.ensures each c.loop-rest.invariant.read e
