-- Where tokens stop being a file's or an outline's, and where a block stands too deep.
use Rattle.std.specs.Prelude.{◌≡◌, ℕ, ◌+◌, ◌<◌, ◌≤◌, List, [], ◌++◌, length, take}
use Rattle.std.specs.List.{AllByRecursion}
use Rattle.plc_lex.specs.declared.token.TokenKind.{TokenKind}
use Rattle.plc_lex.specs.Stops.{IsKind}
use Rattle.plc_syntax.specs.Trees.{OutlineTree, file_then, outline_then}
use Rattle.plc_syntax.specs.Syntax.{Spelling, spelled, AreWhole, AreOf}
use Rattle.plc_syntax.specs.Nesting.{TooDeepAt}

-- some tree's tokens begin with these and go on with tokens that bytes can spell
abbrev pub Begin : {X : Type 0} → Spelling X → List TokenKind → Type 0
Begin {X} x_then ts = (x : X) × (rest : List TokenKind) × AllByRecursion IsKind rest ×
    (spelled x_then x [] ≡ ts ++ rest)

-- a tree's tokens stand at the front of these, whatever stands after them
abbrev pub HaveAtFront : {X : Type 0} → Spelling X → List TokenKind → Type 0
HaveAtFront {X} x_then ts = (x : X) × (after : List TokenKind) × (ts ≡ spelled x_then x after)

-- the least place with whose token no tree's tokens begin any more, or the end where the tokens begin a tree's and are
-- none's
pub record StopAt {X : Type 0} (x_then : Spelling X) (ts : List TokenKind)
    (place : ℕ) : Type 0 where
  pub within : place ≤ length ts
  pub goes_on : Begin x_then (take place ts)
  pub stops : place < length ts → Begin x_then (take (place + 1) ts) → ⊥
  pub unfinished : place ≡ length ts → AreWhole x_then ts → ⊥

-- no tree's tokens stand at the front, and this is the place with which that is known
pub record StopAtFront {X : Type 0} (x_then : Spelling X) (ts : List TokenKind)
    (place : ℕ) : Type 0 where
  pub fault : StopAt x_then ts place
  pub none : HaveAtFront x_then ts → ⊥

-- these, of which the first is at this place, are those of this outline and then others
abbrev pub AreOfOutline : OutlineTree → ℕ → List TokenKind → List TokenKind → Type 0
AreOfOutline o at ts after = AreOf outline_then o at ts after

-- some file begins with these tokens and goes on with tokens that bytes can spell
abbrev pub BeginsFile : List TokenKind → Type 0
BeginsFile ts = Begin file_then ts

-- the least place with whose token no file begins any more, or the end where the tokens begin a file and are none
abbrev pub FaultAt : List TokenKind → ℕ → Type 0
FaultAt ts place = StopAt file_then ts place

-- an outline stands at the front
abbrev pub HasOutline : List TokenKind → Type 0
HasOutline ts = HaveAtFront outline_then ts

-- none does: the least place with whose token no outline begins any more, or the end where the tokens begin an outline
abbrev pub OutlineFaultAt : List TokenKind → ℕ → Type 0
OutlineFaultAt ts place = StopAtFront outline_then ts place

-- no block stands too deep before a place
abbrev pub NoneTooDeepBefore : List TokenKind → ℕ → Type 0
NoneTooDeepBefore ts place = (lesser : ℕ) → lesser < place → TooDeepAt ts lesser → ⊥

-- the tokens stop being a file's at this place, and before it no block stands too deep
pub record SyntaxFaultAt (ts : List TokenKind) (place : ℕ) : Type 0 where
  pub fault : FaultAt ts place
  pub shallow : NoneTooDeepBefore ts place

-- the first block that stands too deep, where the tokens up to its brace still begin a file
pub record NestingFaultAt (ts : List TokenKind) (place : ℕ) : Type 0 where
  pub deep : TooDeepAt ts place
  pub shallow : NoneTooDeepBefore ts place
  pub goes_on : BeginsFile (take (place + 1) ts)
