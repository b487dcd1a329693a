use Rattle.std.proofs.Common.{◌≡◌, ◌++◌, drop, map}
use Rattle.plc_html.specs.Frame.{joined}
use Rattle.plc_html.proofs.frame.joined.Given as goal

abbrev pub invariant-loop-text : goal.invariant-loop-text
invariant-loop-text l =
    l.out.items ++ joined (map (λ text. text.now) (drop l.text-index l.texts)) ≡ joined (map (λ text. text.now) l.texts)
