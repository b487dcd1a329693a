use Rattle.std.proofs.Common.{◌≡◌, ◌++◌, length, take, drop, map, true}
use Rattle.plc_auto.specs.Sets.{all_locations}
use Rattle.plc_xfer.specs.Calls.{other_type}
use Rattle.plc_xfer.specs.Rules.{all_within}
use Rattle.plc_xfer.proofs.calls.pass_other.Given as goal

abbrev pub invariant-loop-i : goal.invariant-loop-i
invariant-loop-i l = record {
  same_length : length l.types ≡ length l.initial.types;
  made : map (other_type l.observer l.kind) l.initial.types ≡ take l.i l.types ++ map (other_type l.observer l.kind) (drop l.i l.types);
  inside : all_within (all_locations l.observer) (drop l.i l.types) ≡ true;
}
