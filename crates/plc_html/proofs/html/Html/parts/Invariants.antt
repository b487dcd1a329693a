use Rattle.std.proofs.Common.{◌≡◌, ◌++◌, drop, map}
use Rattle.std.specs.List.{flat_map}
use Rattle.plc_html.specs.Fragments.{marked_part}
use Rattle.plc_html.proofs.html.Html.parts.Given as goal

abbrev pub invariant-loop-text : goal.invariant-loop-text
invariant-loop-text l = l.self ++ flat_map marked_part (map (λ t. t.now) (drop l.text-index l.texts)) ≡ l.initial.self ++ flat_map marked_part (map (λ t. t.now) l.texts)
