use Rattle.std.proofs.Common.{[], drop, map}
use Rattle.plc_syntax.specs.Trees.{each_then, or_literal_then}
use Rattle.plc_print.specs.Outlines.{bare, literal_tree}
use Rattle.plc_print.proofs.Left.{Left}
use Rattle.plc_print.proofs.clauses.or_literals.Given as goal

abbrev pub invariant-loop-further : goal.invariant-loop-further
invariant-loop-further l =
    let tree = literal_tree l.reach.file.now l.reach.locals.now l.reach.bound.now.names in
    Left l.initial.out l.out (each_then or_literal_then (map bare (map tree l.literals)) []) (each_then or_literal_then (map bare (map tree (drop l.further-index l.literals))) [])
