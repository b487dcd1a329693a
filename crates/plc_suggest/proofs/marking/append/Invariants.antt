use Rattle.std.proofs.Common.{◌≡◌, ◌++◌, take}
use Rattle.plc_suggest.proofs.marking.append.Given as goal

abbrev pub invariant-loop-prim : goal.invariant-loop-prim
invariant-loop-prim l = l.list ≡ l.fn.list ++ take l.prim-index l.prims
