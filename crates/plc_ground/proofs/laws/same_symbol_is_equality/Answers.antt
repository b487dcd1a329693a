use Rattle.std.proofs.Common.{◌≡◌, true, subst}
use Rattle.plc_ground.specs.Symbols.{same_symbol, same_map}
use Rattle.plc_ground.proofs.Symbols.{same_symbol_true, same_symbol_refl, same_map_true, same_map_refl}
use Rattle.plc_ground.proofs.laws.same_symbol_is_equality.Goals as goal

pub returns : goal.returns
returns c = record {
  equal_pass = λ a b e. subst (λ x. same_symbol a x ≡ true) e (same_symbol_refl a);
  passing_are_equal = same_symbol_true;
  equal_maps_pass = λ a b e. subst (λ x. same_map a x ≡ true) e (same_map_refl a);
  passing_maps_are_equal = same_map_true;
}
