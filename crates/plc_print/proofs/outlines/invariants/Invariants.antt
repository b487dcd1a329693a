use Rattle.std.proofs.Common.{[], drop, map}
use Rattle.plc_syntax.specs.Trees.{each_then, item_then}
use Rattle.plc_print.specs.Outlines.{invariant_tree}
use Rattle.plc_print.proofs.Left.{Left}
use Rattle.plc_print.proofs.outlines.invariants.Given as goal

abbrev pub invariant-loop-clause : goal.invariant-loop-clause
invariant-loop-clause l = Left l.initial.out l.out (each_then item_then (map (invariant_tree l.file) l.clauses) []) (each_then item_then (map (invariant_tree l.file) (drop l.clause-index l.clauses)) [])
