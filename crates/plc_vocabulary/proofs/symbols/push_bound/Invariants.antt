use Rattle.std.proofs.Common.{◌≡◌, ◌++◌, map}
use Rattle.plc_ground.specs.declared.terms.Symbol.TheVariants as symbols
use Rattle.plc_vocabulary.specs.Setting.{below}
use Rattle.plc_vocabulary.proofs.symbols.push_bound.Given as goal

abbrev pub invariant-loop-i : goal.invariant-loop-i
invariant-loop-i l = l.list ≡ l.initial.list ++ map symbols.Bound (below l.i)
