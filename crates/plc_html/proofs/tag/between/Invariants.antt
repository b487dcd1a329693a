use Rattle.std.proofs.Common.{◌≡◌, ◌++◌, drop, map}
use Rattle.plc_html.specs.Tags.{between}
use Rattle.plc_html.proofs.tag.between.Given as goal

abbrev pub invariant-loop-part : goal.invariant-loop-part
invariant-loop-part l =
    l.out.items ++ between (map (λ part. (part.0.now, part.1)) (drop l.part-index l.parts)) l.«end»
    ≡ between (map (λ part. (part.0.now, part.1)) l.parts) l.«end»
