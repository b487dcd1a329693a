use Rattle.std.proofs.Common.{◌≡◌, ◌++◌, drop, filter}
use Rattle.plc_lang.specs.Locals.{is_pointer}
use Rattle.plc_answers.specs.Typings.{local_lines}
use Rattle.plc_answers.proofs.typings.push_locals.Given as goal

abbrev pub invariant-loop-local : goal.invariant-loop-local
invariant-loop-local l =
    l.out.items ++ local_lines l.file l.observer l.label (filter is_pointer (drop l.local-index l.locals)) (drop l.at l.types)
    ≡ l.initial.out.items ++ local_lines l.file l.observer l.label (filter is_pointer l.locals) l.types
