use Rattle.std.proofs.Common.{[], drop, filter, map}
use Rattle.plc_lang.specs.declared.syntax.Local.{Local}
use Rattle.plc_syntax.specs.Trees.{each_then, field_then}
use Rattle.plc_print.specs.Canonical.{declaration_tree, is_declared}
use Rattle.plc_lang.specs.Names.{name_at}
use Rattle.plc_print.proofs.Left.{Left}
use Rattle.plc_print.proofs.declarations.declared_locals.Given as goal

abbrev pub invariant-loop-local : goal.invariant-loop-local
invariant-loop-local l =
    let tree = λ (x : Local). declaration_tree (name_at l.file x.name) x.pointer in
    Left l.initial.out l.out (each_then field_then (map tree (filter is_declared l.locals)) []) (each_then field_then (map tree (filter is_declared (drop l.local-index l.locals))) [])
