use Rattle.std.proofs.Common.{◌≡◌, map, drop}
use Rattle.plc_symbolic.specs.declared.symbolic.SymbolicTerm.TheVariants.{Constant}
use Rattle.plc_symbolic.specs.Numbering.{written_all}
use Rattle.plc_encoding.specs.Items.{is_other}
use Rattle.plc_encoding.proofs.freshness.push_no_variable.Given as goal

abbrev pub invariant-loop-p : goal.invariant-loop-p
invariant-loop-p l =
    written_all l.initial.out (map (λ p. is_other (Constant p)) l.pointers)
    ≡ written_all l.out (map (λ p. is_other (Constant p)) (drop l.p-index l.pointers))
