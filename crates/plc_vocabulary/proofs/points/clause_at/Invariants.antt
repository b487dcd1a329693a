use Rattle.std.proofs.Common.{◌≡◌, drop, map, filter, slice_get}
use Rattle.plc_logic.specs.declared.clause.Item.{Item}
use Rattle.plc_vocabulary.specs.Points.{stands_at, clauses_at}
use Rattle.plc_vocabulary.proofs.points.clause_at.Given as goal

abbrev pub invariant-loop-item : goal.invariant-loop-item
invariant-loop-item l = slice_get (map (λ (i : Item). i.clause) (filter (stands_at l.flow l.p) (drop l.item-index l.item-items))) l.left ≡ slice_get (clauses_at l.flow l.outline l.p) l.clause
