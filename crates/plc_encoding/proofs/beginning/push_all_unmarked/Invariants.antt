use Rattle.std.proofs.Common.{◌≡◌, map, drop}
use Rattle.plc_symbolic.specs.Numbering.{written_all}
use Rattle.plc_encoding.specs.Items.{unmarked}
use Rattle.plc_encoding.proofs.beginning.push_all_unmarked.Given as goal

abbrev pub invariant-loop-p : goal.invariant-loop-p
invariant-loop-p l =
    written_all l.initial.out (map unmarked l.pointers)
    ≡ written_all l.out (map unmarked (drop l.p-index l.pointers))
