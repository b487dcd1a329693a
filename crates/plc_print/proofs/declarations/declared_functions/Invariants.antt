use Rattle.std.proofs.Common.{[], drop, map}
use Rattle.plc_lang.specs.declared.syntax.Func.{Func}
use Rattle.plc_syntax.specs.Trees.{Declares, each_then, function_then}
use Rattle.plc_lang.specs.Names.{name_at}
use Rattle.plc_print.proofs.Left.{Left}
use Rattle.plc_print.proofs.declarations.declared_functions.Given as goal
use Rattle.plc_print.specs.Outlines.{bare}

abbrev pub invariant-loop-func : goal.invariant-loop-func
invariant-loop-func l =
    let tree = λ (f : Func). Declares (bare (name_at l.file f.name)) f.pointer in
    Left l.initial.out l.out (each_then function_then (map tree l.others) []) (each_then function_then (map tree (drop l.func-index l.others)) [])
