use Rattle.std.proofs.Common.{◌≡◌, ◌<◌, ℕ, Some}
use Rattle.std.specs.Prelude.{slice_get, slice_index}
use Rattle.plc_ground.specs.declared.terms.Lit.{Lit}
use Rattle.plc_ground.specs.Model.{FailsIn}
use Rattle.plc_solve.proofs.choice.true_place.Given as goal

abbrev pub invariant-loop-k : goal.invariant-loop-k
invariant-loop-k l = (n : ℕ) (m : Lit) → n < l.k → slice_get l.literals n ≡ Some m → FailsIn (slice_index l.class) m
