use Rattle.std.proofs.Common.{◌≡◌, map, drop}
use Rattle.plc_symbolic.specs.declared.symbolic.SymbolicTerm.TheVariants.{Constant}
use Rattle.plc_symbolic.specs.Numbering.{listed_all}
use Rattle.plc_oblig.proofs.grounding.list_constants.Given as goal

abbrev pub invariant-loop-symbol : goal.invariant-loop-symbol
invariant-loop-symbol l = listed_all l.out (map Constant (drop l.symbol-index l.symbols)) ≡ listed_all l.fn.out (map Constant l.symbols)
