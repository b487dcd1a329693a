use Rattle.std.proofs.Common.{◌≡◌, ◌++◌, map}
use Rattle.plc_ground.specs.declared.terms.Symbol.TheVariants as symbols
use Rattle.plc_vocabulary.proofs.constants.push_numbers.Given as goal

abbrev pub invariant-loop-n : goal.invariant-loop-n
invariant-loop-n l = l.list ++ map symbols.Number l.n-iterator ≡ l.initial.list ++ map symbols.Number l.numbers.keys
