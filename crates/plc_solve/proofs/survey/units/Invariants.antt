use Rattle.std.specs.Prelude.{All}
use Rattle.plc_ground.specs.Fit.{IsInRange}
use Rattle.plc_solve.proofs.survey.units.Given as goal

abbrev pub invariant-loop-c : goal.invariant-loop-c
invariant-loop-c l = All (IsInRange l.set.terms) l.list.items
