use Rattle.std.proofs.Common.{◌≡◌, ◌++◌, length, take, drop, map, true}
use Rattle.plc_auto.specs.Sets.{all_locations}
use Rattle.plc_xfer.specs.Rules.{interfered_local, all_within}
use Rattle.plc_xfer.proofs.interference.interfere_locals.Given as goal

abbrev pub invariant-loop-i : goal.invariant-loop-i
invariant-loop-i l = record {
  same_length : length l.locals ≡ length l.initial.locals;
  made : map (interfered_local l.observer) l.initial.locals ≡ take l.i l.locals ++ map (interfered_local l.observer) (drop l.i l.locals);
  inside : all_within (all_locations l.observer) (drop l.i l.locals) ≡ true;
}
