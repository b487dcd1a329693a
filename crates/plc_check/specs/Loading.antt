-- Which file bytes spell.
use Rattle.std.specs.Prelude.{ℕ, ◌≤◌, List}
use Rattle.plc_lex.specs.declared.token.Token.{Token}
use Rattle.plc_lex.specs.Spelling.{AreTokensOf}
use Rattle.plc_parse.specs.declared.unit.Unit.{Unit as FileUnit}
use Rattle.plc_parse.specs.Units.{IsUnitOf}
use Rattle.plc_flow.specs.Lowering.{made_of, flow_of, most_points}
use Rattle.plc_oblig.specs.Outlines.{HasFewObligations, HasSmallSets}

-- the bytes spell these tokens, which spell the unit, whose flow has no more points than it may
pub record SpellsUnit (bytes : List ℕ) (tokens : List Token) (u : FileUnit) : Type 0 where
  pub spelled : AreTokensOf bytes tokens
  pub unit : IsUnitOf tokens u
  pub few : (made_of u.file).points ≤ most_points

-- the bytes spell the unit, and its outline is within its limits
pub record IsFileOf (bytes : List ℕ) (u : FileUnit) : Type 0 where
  pub tokens : List Token
  pub spells : SpellsUnit bytes tokens u
  pub few : HasFewObligations (flow_of u.file) u.outline
  pub small : HasSmallSets (flow_of u.file) u.outline
