use Rattle.std.proofs.Common.{◌≡◌, ◌≤◌, ◌+◌, drop, filter, length}
use Rattle.plc_vocabulary.specs.Points.{stands_at, count_at}
use Rattle.plc_vocabulary.proofs.points.count_at.Given as goal

abbrev pub invariant-loop-item : goal.invariant-loop-item
invariant-loop-item l =
    (l.count + length (filter (stands_at l.flow l.p) (drop l.item-index l.item-items)) ≡ count_at l.flow l.outline l.p)
    × (l.count ≤ l.item-index)
