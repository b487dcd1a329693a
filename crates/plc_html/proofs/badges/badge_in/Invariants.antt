use Rattle.std.proofs.Common.{◌≡◌, map, length}
use Rattle.plc_html.specs.Badges.{badge_in}
use Rattle.plc_html.proofs.badges.badge_in.Given as goal

abbrev pub invariant-loop-table : goal.invariant-loop-table
invariant-loop-table l =
    badge_in (map (λ row. (row.0, row.1.now, row.2)) l.table) l.status l.answer
    ≡ badge_in (map (λ row. (row.0, row.1.now, row.2)) l.fn.table) l.status l.answer

abbrev pub decreases-loop-table : goal.decreases-loop-table
decreases-loop-table l = length l.table
