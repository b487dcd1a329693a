use Rattle.std.proofs.Common.{◌≡◌, ◌++◌, take, map}
use Rattle.plc_vocabulary.specs.Acts.{mark_of}
use Rattle.plc_vocabulary.proofs.symbols.push_marks.Given as goal

abbrev pub invariant-loop-symbol : goal.invariant-loop-symbol
invariant-loop-symbol l = l.list ≡ l.initial.list ++ map mark_of (take l.symbol-index l.of)
