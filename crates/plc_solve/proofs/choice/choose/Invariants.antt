use Rattle.std.proofs.Common.{◌<◌, ℕ, length}
use Rattle.std.specs.Prelude.{Any, slice_index, IfSome, IfNone}
use Rattle.plc_ground.specs.Model.{HoldsIn, literals}
use Rattle.plc_solve.specs.Search.{IsFalse}
use Rattle.plc_solve.proofs.choice.choose.Given as goal

abbrev pub invariant-loop-c : goal.invariant-loop-c
invariant-loop-c l = record {
  some : IfSome l.best (λ b. (b.clause < length l.set.clauses) × IsFalse l.set l.class b.clause);
  none : IfNone l.best ((c : ℕ) → c < l.c → Any (HoldsIn (slice_index l.class)) (literals l.set c));
}
