use Rattle.std.proofs.Common.{◌≡◌, ◌++◌, map}
use Rattle.plc_ground.specs.declared.terms.Symbol.TheVariants as symbols
use Rattle.plc_vocabulary.specs.Setting.{below}
use Rattle.plc_vocabulary.proofs.symbols.push_values.Given as goal

abbrev pub invariant-loop-v : goal.invariant-loop-v
invariant-loop-v l = l.list ≡ l.initial.list ++ map symbols.Value (below l.v)
