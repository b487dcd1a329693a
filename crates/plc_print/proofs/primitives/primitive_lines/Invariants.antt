use Rattle.std.proofs.Common.{[], drop, map}
use Rattle.plc_syntax.specs.Trees.{placed_then, each_then, primitive_line_then}
use Rattle.plc_print.specs.Canonical.{primitive_tree}
use Rattle.plc_print.proofs.Left.{Left}
use Rattle.plc_print.proofs.primitives.primitive_lines.Given as goal
use Rattle.plc_print.specs.Outlines.{bare}

abbrev pub invariant-loop-prim : goal.invariant-loop-prim
invariant-loop-prim l =
    let tree = primitive_tree l.reach.file.now l.reach.locals.now in
    Left l.initial.out l.out (each_then (placed_then primitive_line_then) (map (λ k. bare (tree k)) l.prims) []) (each_then (placed_then primitive_line_then) (map (λ k. bare (tree k)) (drop l.prim-index l.prims)) [])
