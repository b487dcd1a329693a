-- Faults are one, so the answer that tokens are due is a function of them.
use Rattle.std.specs.Prelude.{◌≡◌, ℕ, List}
use Rattle.plc_lex.specs.declared.token.TokenKind.{TokenKind}
use Rattle.plc_syntax.specs.Nesting.{NoneTooDeep}
use Rattle.plc_syntax.specs.Stops.{SyntaxFaultAt, NestingFaultAt, OutlineFaultAt}
use Rattle.plc_syntax.specs.Syntax.{IsFile}

-- a fault of syntax or of nesting is at one place, tokens don't have both, and with either they are no file without
-- blocks too deep; an outline that has to stand at the front is missing at one place
pub record SyntaxFaultsAreOne : Type 0 where
  pub syntax_place : (ts : List TokenKind) (a b : ℕ) → SyntaxFaultAt ts a → SyntaxFaultAt ts b → a ≡ b
  pub nesting_place : (ts : List TokenKind) (a b : ℕ) → NestingFaultAt ts a → NestingFaultAt ts b → a ≡ b
  pub not_both : (ts : List TokenKind) (a b : ℕ) → SyntaxFaultAt ts a → NestingFaultAt ts b → ⊥
  pub syntax_no_file : (ts : List TokenKind) (at : ℕ) → SyntaxFaultAt ts at → IsFile ts → ⊥
  pub nesting_not_shallow : (ts : List TokenKind) (at : ℕ) → NestingFaultAt ts at → NoneTooDeep ts → ⊥
  pub outline_place : (ts : List TokenKind) (a b : ℕ) → OutlineFaultAt ts a → OutlineFaultAt ts b → a ≡ b
