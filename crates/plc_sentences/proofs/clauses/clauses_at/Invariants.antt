use Rattle.std.proofs.Common.{◌≡◌, ◌≤◌, ◌++◌, drop, length}
use Rattle.plc_sentences.specs.Clauses.{numbers_from, numbers_at, most_items}
use Rattle.plc_sentences.proofs.clauses.clauses_at.Given as goal

abbrev pub invariant-loop-place : goal.invariant-loop-place
invariant-loop-place l =
    length l.outline.items ≤ most_items
    → l.numbers.items ++ numbers_from l.flow l.p l.place (drop l.place l.outline.items)
    ≡ numbers_at l.flow l.outline l.p
