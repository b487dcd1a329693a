use Rattle.std.proofs.Common.{◌≡◌, drop, slice_get}
use Rattle.plc_sentences.specs.Clauses.{numbers_from, numbers_at}
use Rattle.plc_sentences.proofs.clauses.item_place.Given as goal

abbrev pub invariant-loop-place : goal.invariant-loop-place
invariant-loop-place l =
    slice_get (numbers_from l.flow l.p l.place (drop l.place l.outline.items)) l.left
    ≡ slice_get (numbers_at l.flow l.outline l.p) l.clause
