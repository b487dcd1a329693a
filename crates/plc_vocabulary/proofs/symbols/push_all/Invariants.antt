use Rattle.std.proofs.Common.{◌≡◌, ◌++◌, take}
use Rattle.plc_vocabulary.proofs.symbols.push_all.Given as goal

abbrev pub invariant-loop-symbol : goal.invariant-loop-symbol
invariant-loop-symbol l = l.list ≡ l.initial.list ++ take l.symbol-index l.more
