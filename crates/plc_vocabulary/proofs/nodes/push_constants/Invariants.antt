use Rattle.std.proofs.Common.{◌≡◌, ◌++◌, map, take}
use Rattle.plc_symbolic.specs.declared.symbolic.NodeTerm.TheVariants as nodes
use Rattle.plc_vocabulary.proofs.nodes.push_constants.Given as goal

abbrev pub invariant-loop-symbol : goal.invariant-loop-symbol
invariant-loop-symbol l = l.list ≡ l.initial.list ++ map nodes.At (take l.symbol-index l.symbols)
