use Rattle.std.proofs.Common.{◌≡◌, map, drop}
use Rattle.plc_auto.specs.Table.{target_of}
use Rattle.plc_auto.specs.Locations.{all_bear_free}
use Rattle.plc_auto.proofs.row.all_bear_free.Given as goal

abbrev pub invariant-loop-i : goal.invariant-loop-i
invariant-loop-i l = all_bear_free l.a (drop l.i l.watchers) (drop l.i (map target_of l.at)) ≡ all_bear_free l.a l.watchers (map target_of l.at)
