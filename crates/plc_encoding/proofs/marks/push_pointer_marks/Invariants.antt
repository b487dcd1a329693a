use Rattle.std.proofs.Common.{◌≡◌, map, drop}
use Rattle.plc_symbolic.specs.declared.symbolic.SymbolicTerm.TheVariants.{Constant}
use Rattle.plc_symbolic.specs.Numbering.{written_all}
use Rattle.plc_encoding.specs.Items.{set_or_not}
use Rattle.plc_encoding.proofs.marks.push_pointer_marks.Given as goal

abbrev pub invariant-loop-mark : goal.invariant-loop-mark
invariant-loop-mark l =
    written_all l.initial.out (map (λ m. set_or_not (Constant m)) l.marks)
    ≡ written_all l.out (map (λ m. set_or_not (Constant m)) (drop l.mark-index l.marks))
