use Rattle.std.proofs.Common.{◌≡◌, map}
use Rattle.plc_ground.specs.declared.terms.Symbol.TheVariants as symbols
use Rattle.plc_symbolic.specs.Numbering.{written_all}
use Rattle.plc_vocabulary.specs.Setting.{below}
use Rattle.plc_encoding.specs.Items.{only_new}
use Rattle.plc_encoding.proofs.beginning.push_bound_new.Given as goal

abbrev pub invariant-loop-i : goal.invariant-loop-i
invariant-loop-i l =
    l.out ≡ written_all l.initial.out (map (λ i. only_new l.makes (symbols.Bound i)) (below l.i))
