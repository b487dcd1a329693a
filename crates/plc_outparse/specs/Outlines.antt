-- Whether an outline stands at the front of tokens, what it means, why it is refused, and what is left after it.
use Rattle.std.specs.Prelude.{◌≡◌, ℕ, ◌+◌, List, length, Result, Err}
use Rattle.plc_lex.specs.declared.token.TokenKind.{TokenKind}
use Rattle.plc_lang.specs.declared.syntax.Op.{Op}
use Rattle.plc_syntax.specs.declared.rest.Rest.{Rest}
use Rattle.plc_syntax.specs.Stops.{AreOfOutline, OutlineFaultAt}
use Rattle.plc_syntax.specs.Syntax.{spelled}
use Rattle.plc_syntax.specs.Trees.{OutlineTree, outline_then}
use Rattle.plc_scope.specs.declared.fault.ParseFault.{ParseFault}
use Rattle.plc_scope.specs.declared.fault.ParseFault.TheVariants as faults
use Rattle.plc_scope.specs.declared.scope.Scope.{Scope}
use Rattle.plc_logic.specs.declared.clause.Outline.{Outline}
use Rattle.plc_outparse.specs.Meaning.{outline_means}

-- the tokens, of which the first is at this place, begin with those of a tree, after which others stand; and the tree
-- has this meaning
pub record Means (s : Scope) (ops : List Op) (at : ℕ) (ts : List TokenKind)
    (meaning : Result Outline ParseFault) (after : List TokenKind) : Type 0 where
  pub tree : OutlineTree
  pub is_outline : AreOfOutline tree at ts after
  pub is : outline_means s ops tree ≡ meaning

-- what is left ends where that before ended
pub record Within (before after : Rest) : Type 0 where
  pub end : after.at + length after.tokens.now ≡ before.at + length before.tokens.now

-- at most one outline stands at the front of tokens, so they have one meaning and one rest, whatever places a tree of
-- theirs has, and where they have none no outline stands there
pub record OutlinesAreOne : Type 0 where
  pub meaning : (s : Scope) (ops : List Op) (at : ℕ) (ts : List TokenKind) (m n : Result Outline ParseFault)
      (r q : List TokenKind) → Means s ops at ts m r → Means s ops at ts n q → m ≡ n
  pub rest : (ts : List TokenKind) (a b : OutlineTree) (r q : List TokenKind) → ts ≡ spelled outline_then a r
      → ts ≡ spelled outline_then b q → r ≡ q
  pub not_both : (ts : List TokenKind) (place : ℕ) (a : OutlineTree) (r : List TokenKind) → OutlineFaultAt ts place
      → ts ≡ spelled outline_then a r → ⊥

-- the fault that they are answered with: of syntax at the place where none can stand there any more, else that of
-- the meaning; memory may run out anywhere
pub data IsPartFault (s : Scope) (ops : List Op) (at : ℕ) (ts : List TokenKind) (e : ParseFault) : Type 0 where
  no_outline : (place : ℕ) → OutlineFaultAt ts place → e ≡ faults.Syntax (at + place) → IsPartFault s ops at ts e
  no_meaning : (after : List TokenKind) → Means s ops at ts (Err e) after → IsPartFault s ops at ts e
  no_memory : e ≡ faults.Memory → IsPartFault s ops at ts e
