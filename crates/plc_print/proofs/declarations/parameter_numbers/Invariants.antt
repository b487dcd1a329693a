use Rattle.std.proofs.Common.{◌≡◌, ◌++◌, drop, filter, map}
use Rattle.plc_lang.specs.declared.syntax.Local.{Local}
use Rattle.plc_lang.specs.Locals.{is_parameter}
use Rattle.plc_print.proofs.declarations.parameter_numbers.Given as goal

abbrev pub invariant-loop-local : goal.invariant-loop-local
invariant-loop-local l =
    let number = λ (x : Local). x.name in
    l.numbers.items ++ map number (filter is_parameter (drop l.local-index l.locals)) ≡ map number (filter is_parameter l.locals)
