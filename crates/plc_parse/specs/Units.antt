-- Which unit tokens spell.
use Rattle.std.specs.Prelude.{◌≡◌, ℕ, List, map, Result, Ok}
use Rattle.plc_lex.specs.declared.token.Token.{Token}
use Rattle.plc_base.specs.declared.limits.What1.TheVariants as limits
use Rattle.plc_syntax.specs.Trees.{FileTree}
use Rattle.plc_syntax.specs.Syntax.{kinds, AreOfFile}
use Rattle.plc_syntax.specs.Nesting.{NoneTooDeep}
use Rattle.plc_scope.specs.declared.fault.ParseFault.{ParseFault}
use Rattle.plc_scope.specs.declared.fault.ParseFault.TheVariants as faults
use Rattle.plc_parse.specs.declared.unit.Unit.{Unit as FileUnit}
use Rattle.plc_parse.specs.Meaning.{file_means}

-- the lines on which the tokens stand
abbrev pub lines_of : List Token → List ℕ
lines_of ts = map (λ (t : Token). t.line) ts

-- the tokens are those of a tree, which has this meaning
pub record Means (ts : List Token) (meaning : Result FileUnit ParseFault) : Type 0 where
  pub tree : FileTree
  pub tokens : AreOfFile tree (kinds ts)
  pub is : file_means (lines_of ts) tree ≡ meaning

-- no block stands too deep among the tokens, which are those of a tree with this meaning
pub record AreRead (ts : List Token) (meaning : Result FileUnit ParseFault) : Type 0 where
  pub shallow : NoneTooDeep (kinds ts)
  pub means : Means ts meaning

-- the unit that tokens spell
abbrev pub IsUnitOf : List Token → FileUnit → Type 0
IsUnitOf ts u = AreRead ts (Ok u)
