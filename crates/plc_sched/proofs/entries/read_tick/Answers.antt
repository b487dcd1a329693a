use Rattle.std.proofs.Common.{length, ap, arith, rules}
use Rattle.plc_sched.specs.Words.{words_left}
use Rattle.plc_sched.proofs.WordsOfEntries.{only_ticks}
use Rattle.plc_sched.proofs.WordsThatRemain.{words_remain}
use Rattle.plc_sched.proofs.entries.read_tick.Goals as goal

pub returns-else-is_none : goal.returns-else-is_none
returns-else-is_none c = λ threads.
    only_ticks threads (words_left c.args.words) (λ e. omega (arith, ap length e, words_remain c.args.words (search rules)))
