use Rattle.std.proofs.Common.{[], drop, map}
use Rattle.plc_syntax.specs.Trees.{placed_then, each_then, op_then}
use Rattle.plc_print.specs.Canonical.{op_tree}
use Rattle.plc_print.proofs.Left.{Left}
use Rattle.plc_print.proofs.declarations.operations.Given as goal
use Rattle.plc_print.specs.Outlines.{bare}

abbrev pub invariant-loop-op : goal.invariant-loop-op
invariant-loop-op l = Left l.initial.out l.out (each_then (placed_then op_then) (map (λ o. bare (op_tree l.file o)) l.ops) []) (each_then (placed_then op_then) (map (λ o. bare (op_tree l.file o)) (drop l.op-index l.ops)) [])
