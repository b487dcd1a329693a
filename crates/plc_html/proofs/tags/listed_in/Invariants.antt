use Rattle.std.proofs.Common.{◌≡◌, map, length}
use Rattle.plc_html.specs.Fragments.{listed_tag}
use Rattle.plc_html.proofs.tags.listed_in.Given as goal

abbrev pub invariant-loop-table : goal.invariant-loop-table
invariant-loop-table l =
    listed_tag (map (λ t. t.now) l.table) l.text ≡ listed_tag (map (λ t. t.now) l.fn.table) l.text

abbrev pub decreases-loop-table : goal.decreases-loop-table
decreases-loop-table l = length l.table
