use Rattle.std.proofs.Common.{◌≡◌, ◌+◌, drop, count_by}
use Rattle.plc_oblig.specs.Size.{is_pointer_load}
use Rattle.plc_oblig.proofs.size.count_pointer_loads.Given as goal

abbrev pub invariant-loop-prim : goal.invariant-loop-prim
invariant-loop-prim l = l.total + count_by is_pointer_load (drop l.prim-index l.prims) ≡ count_by is_pointer_load l.prims
