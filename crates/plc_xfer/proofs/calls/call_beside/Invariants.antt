use Rattle.std.proofs.Common.{◌≡◌, ◌++◌, length, take, drop, map, true}
use Rattle.plc_auto.specs.Sets.{all_locations}
use Rattle.plc_xfer.specs.Calls.{beside_type}
use Rattle.plc_xfer.specs.Rules.{all_within}
use Rattle.plc_xfer.proofs.calls.call_beside.Given as goal

abbrev pub invariant-loop-i : goal.invariant-loop-i
invariant-loop-i l = record {
  same_length : length l.types ≡ length l.initial.types;
  made : map (beside_type l.observer l.func) l.initial.types ≡ take l.i l.types ++ map (beside_type l.observer l.func) (drop l.i l.types);
  inside : all_within (all_locations l.observer) (drop l.i l.types) ≡ true;
}
