use Rattle.std.proofs.Common.{◌≡◌, ◌++◌, drop}
use Rattle.plc_answers.specs.Suggestions.{spot_lines}
use Rattle.plc_answers.proofs.suggestions.push_spots.Given as goal

abbrev pub invariant-loop-spot : goal.invariant-loop-spot
invariant-loop-spot l =
    l.out.items ++ spot_lines l.flow (drop l.spot-index l.spots) ≡ l.initial.out.items ++ spot_lines l.flow l.spots
