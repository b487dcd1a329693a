use Rattle.std.proofs.Common.{◌≡◌, ◌∷◌, arith}
use Rattle.std.specs.Fmt.{decimal}
use Rattle.plc_sched.specs.Entries.{address_words}
use Rattle.plc_sched.specs.Words.{words_left}
use Rattle.plc_sched.proofs.WordsOfEntries.{only_steps}
use Rattle.plc_sched.proofs.entries.read_step.Goals as goal

pub returns-in_err-nth : goal.returns-in_err-nth
returns-in_err-nth c = rw c.from_residual-in_err-nth.ensures
    (only_steps c.args.threads (words_left c.args.words) (λ t nth addr fit e.
    let read = c.in_ok-t.ensures.2 in
    let left : decimal nth ∷ address_words addr ≡ words_left c.in_ok-t.words = cc in
    c.in_err-nth.ensures nth (address_words addr) (omega arith) fit.place left))
