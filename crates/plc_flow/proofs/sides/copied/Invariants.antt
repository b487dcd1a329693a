use Rattle.std.proofs.Common.{◌≡◌, take}
use Rattle.plc_flow.proofs.sides.copied.Given as goal

abbrev pub invariant-loop-prim : goal.invariant-loop-prim
invariant-loop-prim l = l.made ≡ take l.prim-index l.prims
