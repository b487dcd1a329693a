use Rattle.std.proofs.Common.{sym, ◌∙◌}
use Rattle.plc_sched.proofs.WordsOfEntries.{name_is}
use Rattle.plc_sched.proofs.entries.is_name.Goals as goal

pub returns-then-word-le-MOST_NAME_BYTES : goal.returns-then-word-le-MOST_NAME_BYTES
returns-then-word-le-MOST_NAME_BYTES c = c.is_all_in_name.ensures ∙ name_is c.args.word.now c.in-len1-up.len_at_least (sym c.is_letter.ensures ∙ c.if-is_letter.true) c.if-word-le-MOST_NAME_BYTES.true
