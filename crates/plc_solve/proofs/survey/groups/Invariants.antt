use Rattle.std.proofs.Common.{◌<◌, ℕ}
use Rattle.std.specs.Prelude.{All}
use Rattle.plc_solve.specs.Search.{IsDistinguishedAt, IsGroup, IsGrouped}
use Rattle.plc_solve.proofs.survey.groups.Given as goal

abbrev pub invariant-loop-i : goal.invariant-loop-i
invariant-loop-i l = record {
  each : All (IsGroup l.set) l.groups;
  whole : (j : ℕ) → j < l.i → IsDistinguishedAt l.set j → IsGrouped l.groups j;
}
