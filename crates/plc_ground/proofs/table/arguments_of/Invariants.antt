use Rattle.std.proofs.Common.{◌≡◌, ◌<◌, ℕ, length, Some}
use Rattle.std.specs.Prelude.{All, Contains, slice_get}
use Rattle.plc_ground.specs.declared.terms.Map.{Map}
use Rattle.plc_ground.specs.declared.terms.GroundTerm.TheVariants.{App}
use Rattle.plc_ground.proofs.table.arguments_of.Given as goal

abbrev pub invariant-loop-i : goal.invariant-loop-i
invariant-loop-i l = record {
  each : All (λ b. b < length l.set.terms) l.list;
  whole : (m : Map) (v a j : ℕ) → j < l.i → slice_get l.set.terms j ≡ Some (App m v a) → Contains l.list a;
}
