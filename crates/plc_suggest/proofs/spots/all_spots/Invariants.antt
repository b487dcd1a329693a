use Rattle.std.proofs.Common.{◌≡◌, ◌++◌, ◌≤◌, length}
use Rattle.plc_flow.specs.Skeleton.{skeleton_of}
use Rattle.plc_suggest.specs.Spots.{spots_of}
use Rattle.plc_suggest.specs.Suggestions.{most_spots}
use Rattle.plc_suggest.proofs.Listing.{spots_past}
use Rattle.plc_suggest.proofs.spots.all_spots.Given as goal

abbrev pub invariant-loop-k : goal.invariant-loop-k
invariant-loop-k l = record {
  listed : l.spots.items ++ spots_past l.flow l.k ≡ spots_of (skeleton_of l.flow);
  few : length
      l.spots.items ≤ most_spots;
}
