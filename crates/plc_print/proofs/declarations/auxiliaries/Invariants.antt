use Rattle.std.proofs.Common.{[], drop, map}
use Rattle.plc_lang.specs.declared.syntax.Ghost.{Ghost}
use Rattle.plc_syntax.specs.Trees.{Auxiliary, each_then, ghost_then}
use Rattle.plc_print.specs.Canonical.{ghost_kind}
use Rattle.plc_lang.specs.Names.{name_at}
use Rattle.plc_print.proofs.Left.{Left}
use Rattle.plc_print.proofs.declarations.auxiliaries.Given as goal
use Rattle.plc_print.specs.Outlines.{bare}

abbrev pub invariant-loop-field : goal.invariant-loop-field
invariant-loop-field l =
    let tree = λ (g : Ghost). Auxiliary (bare (name_at l.file g.name)) (ghost_kind l.file g.values) in
    Left l.initial.out l.out (each_then ghost_then (map tree l.fields) []) (each_then ghost_then (map tree (drop l.field-index l.fields)) [])
