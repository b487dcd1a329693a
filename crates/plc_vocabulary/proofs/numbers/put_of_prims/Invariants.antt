use Rattle.std.proofs.Common.{◌≡◌, drop}
use Rattle.std.specs.List.{flat_map}
use Rattle.plc_vocabulary.specs.Setting.{prim_numbers, with_numbers}
use Rattle.plc_vocabulary.proofs.numbers.put_of_prims.Given as goal

abbrev pub invariant-loop-prim : goal.invariant-loop-prim
invariant-loop-prim l =
    with_numbers l.numbers.keys (flat_map prim_numbers (drop l.prim-index l.prims))
    ≡ with_numbers l.initial.numbers.keys (flat_map prim_numbers l.prims)
