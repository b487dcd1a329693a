use Rattle.std.proofs.Common.{◌≤◌, ◌-◌, ◌+◌, ◌*◌, ◌++◌, length, drop}
use Rattle.std.specs.List.{All}
use Rattle.plc_flow.specs.Skeleton.{skeleton_of}
use Rattle.plc_suggest.specs.Marking.{IsOfStep}
use Rattle.plc_suggest.specs.Trials.{IsReached, AreKept}
use Rattle.plc_suggest.proofs.search.needed_spots.Given as goal

abbrev pub invariant-loop-at : goal.invariant-loop-at
invariant-loop-at l = record {
  within : l.at ≤ length l.parts.spots.now;
  kept : AreKept l.parts.observer.now (skeleton_of l.parts.flow.now) l.kept.items l.at;
  known : All (IsOfStep (length l.parts.flow.now.steps)) l.kept.items;
  few : length l.kept.items ≤ l.at;
  reached : IsReached l.parts (l.kept.items ++ drop l.at l.parts.spots.now) l.envs.items;
  some : 1 ≤ l.row;
  most : l.row ≤ 4096;
}

abbrev pub decreases-loop-at : goal.decreases-loop-at
decreases-loop-at l = (length l.parts.spots.now - l.at) * 5000 + l.row
