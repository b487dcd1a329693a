use Rattle.std.proofs.Common.{◌<◌, ℕ}
use Rattle.std.specs.Prelude.{All, Contains}
use Rattle.plc_solve.specs.Search.{IsOfGroup}
use Rattle.plc_solve.proofs.survey.group_of.Given as goal

abbrev pub invariant-loop-i : goal.invariant-loop-i
invariant-loop-i l = record {
  each : All (IsOfGroup l.set l.first) l.group;
  whole : (j : ℕ) → j < l.i → IsOfGroup l.set l.first j → Contains l.group j;
}
