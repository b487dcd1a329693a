use Rattle.std.proofs.Common.{◌≡◌, ◌++◌, map}
use Rattle.plc_ground.specs.declared.terms.Symbol.TheVariants as symbols
use Rattle.plc_vocabulary.specs.Setting.{below}
use Rattle.plc_vocabulary.proofs.symbols.push_shared.Given as goal

abbrev pub invariant-loop-i : goal.invariant-loop-i
invariant-loop-i l = l.list ≡ l.initial.list ++ map symbols.Shared (below l.i)
