use Rattle.std.proofs.Common.{[], drop, map}
use Rattle.plc_lang.specs.declared.syntax.Field.{Field}
use Rattle.plc_syntax.specs.Trees.{each_then, field_then}
use Rattle.plc_print.specs.Canonical.{declaration_tree}
use Rattle.plc_lang.specs.Names.{name_at}
use Rattle.plc_print.proofs.Left.{Left}
use Rattle.plc_print.proofs.declarations.fields.Given as goal

abbrev pub invariant-loop-field : goal.invariant-loop-field
invariant-loop-field l =
    let tree = λ (f : Field). declaration_tree (name_at l.file f.name) f.pointer in
    Left l.initial.out l.out (each_then field_then (map tree l.fields) []) (each_then field_then (map tree (drop l.field-index l.fields)) [])
