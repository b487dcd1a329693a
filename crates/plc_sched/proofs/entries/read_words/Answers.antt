use Rattle.std.proofs.Common.{◌≡◌, ◌∷◌, codes, ap, ◌∙◌, rules}
use Rattle.plc_sched.specs.Words.{words_left}
use Rattle.plc_sched.proofs.entries.read_words.Goals as goal

pub returns-then-eq-4-clause-ok : goal.returns-then-eq-4-clause-ok
returns-then-eq-4-clause-ok c =
    let kind : c.in-Some.kind.now ≡ codes "tick" = search rules in
    let words : words_left c.args.words ≡ codes "tick" ∷ words_left c.in-Some.words = c.in-Some.ensures.some ∙ ap (λ k. k ∷ words_left c.in-Some.words) kind in
    rw words (c.read_tick.ensures c.args.threads)
