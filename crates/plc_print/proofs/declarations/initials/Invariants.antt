use Rattle.std.proofs.Common.{[], drop, map}
use Rattle.plc_syntax.specs.Trees.{placed_then, each_then, initial_then}
use Rattle.plc_print.specs.Canonical.{initial_tree}
use Rattle.plc_print.proofs.Left.{Left}
use Rattle.plc_print.proofs.declarations.initials.Given as goal
use Rattle.plc_print.specs.Outlines.{bare}

abbrev pub invariant-loop-prim : goal.invariant-loop-prim
invariant-loop-prim l = Left l.initial.out l.out (each_then (placed_then initial_then) (map (λ k. bare (initial_tree l.file k)) l.prims) []) (each_then (placed_then initial_then) (map (λ k. bare (initial_tree l.file k)) (drop l.prim-index l.prims)) [])
