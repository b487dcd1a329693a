-- How the program's answers speak of what the specification reads.
use Rattle.std.specs.Prelude.{◌≡◌, ◌<◌, ◌≤◌, ◌+◌, ℕ, List, length, take}
use Rattle.plc_lex.specs.declared.token.TokenKind.{TokenKind}
use Rattle.plc_syntax.specs.Nesting.{TooDeepAt}
use Rattle.plc_syntax.specs.Stops.{NoneTooDeepBefore, BeginsFile, FaultAt}
use Rattle.plc_syntax.specs.declared.fault.Fault.{Fault}
use Rattle.plc_syntax.specs.declared.fault.Fault.TheVariants as faults
use Rattle.plc_tree.specs.declared.fault.SyntaxFault.{SyntaxFault}
use Rattle.plc_tree.specs.declared.fault.SyntaxFault.TheVariants as answers

-- the fault is where tokens stop being a file's, unless memory ran out
abbrev pub StopsThere : List TokenKind → Fault → Type 0
StopsThere ts (faults.Syntax at) = FaultAt ts at
StopsThere ts faults.Memory = Unit {0}

-- a block stands too deep at a place of the tokens, and none before
pub record IsFirstTooDeep (ts : List TokenKind) (place : ℕ) : Type 0 where
  pub within : place < length ts
  pub deep : TooDeepAt ts place
  pub shallow : NoneTooDeepBefore ts place

-- the fault is where tokens stop being a file's up to a place, or at the place, up to which they begin one
abbrev pub FaultsUpTo : List TokenKind → ℕ → SyntaxFault → Type 0
FaultsUpTo ts place (answers.Syntax at) = (at ≤ place) × FaultAt ts at
FaultsUpTo ts place (answers.Nesting at) = (at ≡ place) × BeginsFile (take (place + 1) ts)
FaultsUpTo ts place answers.Memory = Unit {0}
