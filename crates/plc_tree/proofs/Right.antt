-- Of the answers one holds, at one place: so each comes exactly where its fact holds, or memory ran out.
use Rattle.std.proofs.Common.{◌≡◌, ℕ, List, Result, Ok, Err, refl, ap, sym, subst, arith, inl, inr}
use Rattle.plc_lex.specs.declared.token.TokenKind.{TokenKind}
use Rattle.plc_syntax.specs.Nesting.{NoneTooDeep}
use Rattle.plc_syntax.specs.Stops.{SyntaxFaultAt, NestingFaultAt, FaultAt}
use Rattle.plc_syntax.specs.Syntax.{IsFile}
use Rattle.plc_tree.specs.declared.fault.SyntaxFault.{SyntaxFault}
use Rattle.plc_tree.specs.declared.fault.SyntaxFault.TheVariants.{Syntax, Nesting, Memory}
use Rattle.plc_tree.specs.Answers.{IsFirstTooDeep, FaultsUpTo}
use Rattle.plc_tree.specs.Whole.{IsExactly, IsReadWhere}
use Rattle.plc_tree.proofs.Places.{faults_one}

-- what the three clauses say of an answer
pub record IsRight {A : Type 0} (ts : List TokenKind) (answer : Result A SyntaxFault) : Type 0 where
  pub file : IsReadWhere Memory answer (IsFile ts × NoneTooDeep ts)
  pub syntax_fault : (at : ℕ) → IsExactly Memory answer (Err (Syntax at)) (SyntaxFaultAt ts at)
  pub nesting_fault : (at : ℕ) → IsExactly Memory answer (Err (Nesting at)) (NestingFaultAt ts at)

place_of_syntax : (A : Type 0) (a b : ℕ) → let left : Result A SyntaxFault = Err (Syntax a) in
    let right : Result A SyntaxFault = Err (Syntax b) in left ≡ right → a ≡ b
place_of_syntax A a b e = cc

place_of_nesting : (A : Type 0) (a b : ℕ) → let left : Result A SyntaxFault = Err (Nesting a) in
    let right : Result A SyntaxFault = Err (Nesting b) in left ≡ right → a ≡ b
place_of_nesting A a b e = cc

module _ {A : Type 0} (ts : List TokenKind) where
  pub read_is_right : (x : A) → IsFile ts → NoneTooDeep ts → IsRight {A = A} ts (Ok x)
  read_is_right x f n = record {
    file = record { only = λ y e. (f, n); always = λ h. inl (x, refl) };
    syntax_fault = λ at. record { only = λ e. cc; always = λ h. absurd (faults_one.syntax_no_file ts at h f) };
    nesting_fault = λ at. record { only = λ e. cc; always = λ h. absurd (faults_one.nesting_not_shallow ts at h n) };
  }

  pub syntax_is_right : (place : ℕ) → SyntaxFaultAt ts place → IsRight {A = A} ts (Err (Syntax place))
  syntax_is_right place h = record {
    file = record { only = λ y e. cc; always = λ f. absurd (faults_one.syntax_no_file ts place h f.0) };
    syntax_fault = λ at. record {
      only = λ e. subst (λ p. SyntaxFaultAt ts p) (place_of_syntax A place at e) h;
      always = λ k. inl (ap (λ p. Err (Syntax p)) (faults_one.syntax_place ts place at h k));
    };
    nesting_fault = λ at. record { only = λ e. cc; always = λ k. absurd (faults_one.not_both ts place at h k) };
  }

  pub nesting_is_right : (place : ℕ) → NestingFaultAt ts place → IsRight {A = A} ts (Err (Nesting place))
  nesting_is_right place h = record {
    file = record { only = λ y e. cc; always = λ f. absurd (faults_one.nesting_not_shallow ts place h f.1) };
    syntax_fault = λ at. record { only = λ e. cc; always = λ k. absurd (faults_one.not_both ts at place k h) };
    nesting_fault = λ at. record {
      only = λ e. subst (λ p. NestingFaultAt ts p) (place_of_nesting A place at e) h;
      always = λ k. inl (ap (λ p. Err (Nesting p)) (faults_one.nesting_place ts place at h k));
    };
  }

  pub memory_is_right : IsRight {A = A} ts (Err Memory)
  memory_is_right = record {
    file = record { only = λ y e. cc; always = λ h. inr refl };
    syntax_fault = λ at. record { only = λ e. cc; always = λ h. inr refl };
    nesting_fault = λ at. record { only = λ e. cc; always = λ h. inr refl };
  }

  -- a fault up to the first block too deep
  pub deep_is_right : (place : ℕ) (fault : SyntaxFault) → IsFirstTooDeep ts place → FaultsUpTo ts place fault
      → IsRight {A = A} ts (Err fault)
  deep_is_right place (Syntax at) d h = syntax_is_right at (record {
    fault = h.1;
    shallow = λ lesser l k. d.shallow lesser (let b = h.0 in omega arith) k;
  })
  deep_is_right place (Nesting at) d h = nesting_is_right at (subst (λ p. NestingFaultAt ts p) (sym h.0)
      (record { deep = d.deep; shallow = d.shallow; goes_on = h.1 }))
  deep_is_right place Memory d h = memory_is_right

  -- a fault where no block is too deep
  pub shallow_is_right : (at : ℕ) → NoneTooDeep ts → FaultAt ts at → IsRight {A = A} ts (Err (Syntax at))
  shallow_is_right at n h = syntax_is_right at (record { fault = h; shallow = λ lesser l k. n lesser k })
