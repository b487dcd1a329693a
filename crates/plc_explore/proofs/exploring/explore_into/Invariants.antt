use Rattle.plc_explore.specs.Racing.{FindsRaces}
use Rattle.plc_explore.proofs.exploring.explore_into.Given as goal

abbrev pub invariant-loop : goal.invariant-loop
invariant-loop g l = FindsRaces l.program l.explored.trail
