use Rattle.std.proofs.Common.{◌≡◌, length}
use Rattle.plc_solve.proofs.Grouping.{Passes}
use Rattle.plc_solve.proofs.apart.conflict_in.Given as goal

abbrev pub invariant-loop-k : goal.invariant-loop-k
invariant-loop-k l = record {
  passes : Passes l.set l.group l.class l.last l.k;
  last : length l.last ≡ length l.set.terms;
}
