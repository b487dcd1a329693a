use Rattle.std.proofs.Common.{◌≡◌, ◌∷◌, [], map}
use Rattle.plc_ground.specs.declared.terms.Symbol.TheVariants as symbols
use Rattle.plc_symbolic.specs.declared.symbolic.SymbolicTerm.TheVariants.{Constant}
use Rattle.plc_symbolic.specs.Numbering.{written_all}
use Rattle.plc_symbolic.specs.Terms.{is_not, null}
use Rattle.plc_vocabulary.specs.Setting.{below}
use Rattle.plc_encoding.proofs.conclusion.push_nodes.Given as goal

abbrev pub invariant-loop-i : goal.invariant-loop-i
invariant-loop-i l =
    l.out ≡ written_all l.initial.out (map (λ i. is_not (Constant (symbols.Bound i)) null ∷ []) (below l.i))
