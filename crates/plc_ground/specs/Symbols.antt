-- Whether two constants, and two maps, are one, as the program compares them: that this is equality is the law
-- `same_symbol_is_equality`.
use Rattle.std.specs.Prelude.{◌≡◌, Bool, true}
use Rattle.plc_ground.specs.declared.terms.Symbol.{Symbol}
use Rattle.plc_ground.specs.declared.terms.Map.{Map}
use Rattle.plc_ground.specs.contracts.terms.SymbolPartialEq.TheImpl as symbol
use Rattle.plc_ground.specs.contracts.terms.MapPartialEq.TheImpl as map

-- two constants are one
abbrev pub same_symbol : Symbol → Symbol → Bool
same_symbol a b = symbol.eq-value.it a b

-- two maps are one
abbrev pub same_map : Map → Map → Bool
same_map a b = map.eq-value.it a b

-- the tests hold of equal constants and of equal maps, and of no others
pub record SameSymbolIsEquality : Type 0 where
  pub equal_pass : (a b : Symbol) → a ≡ b → same_symbol a b ≡ true
  pub passing_are_equal : (a b : Symbol) → same_symbol a b ≡ true → a ≡ b
  pub equal_maps_pass : (a b : Map) → a ≡ b → same_map a b ≡ true
  pub passing_maps_are_equal : (a b : Map) → same_map a b ≡ true → a ≡ b
