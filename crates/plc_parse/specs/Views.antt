-- How the program's answers are seen.
use Rattle.std.specs.Prelude.{◌||◌, ℕ, Bool, List, [], ◌++◌, length, Option, Result, Ok, IfOk}
use Rattle.plc_lang.specs.declared.syntax.Primitive.{Primitive}
use Rattle.plc_lang.specs.declared.syntax.Stmt.{Stmt}
use Rattle.plc_lang.specs.Views.{statement_of}
use Rattle.plc_scope.specs.declared.fault.ParseFault.{ParseFault}
use Rattle.plc_scope.specs.declared.scope.Scope.{Scope}
use Rattle.plc_scope.specs.Answers.{Gives}
use Rattle.plc_scope.specs.Scope.{◌>>=◌}
use Rattle.plc_parse.specs.declared.file.Front.{Front}
use Rattle.plc_parse.specs.Growth.{GrowsByLabels, AddsLocals}
use Rattle.plc_syntax.specs.Trees.{StatementTree}
use Rattle.plc_parse.specs.Meaning.{counted, before, allocates, statement_means}
use Rattle.plc_parse.specs.Parts.{FrontParts}

-- a form is answered as it is meant, and where it has a meaning labels alone were declared
pub record MeansHere {X A : Type 0} (seen : X → A) (meant : Result (A × Scope) ParseFault) (old new : Scope)
    (answer : Result X ParseFault) : Type 0 where
  pub read : Gives (λ x. (seen x, new)) answer meant
  pub labels : IfOk answer (λ x. GrowsByLabels old new)

-- a statement at a place is answered as it is meant
abbrev pub MeansStatement : List ℕ → Bool → ℕ → StatementTree → (old new : Scope) → Result Stmt ParseFault → Type 0
MeansStatement lines in_loop at s old new answer =
    MeansHere statement_of (statement_means lines old in_loop at s) old new answer

-- locals are declared as is meant
pub record DeclaresLocals {A : Type 0} (meant : Result Scope ParseFault) (old new : Scope)
    (answer : Result A ParseFault) : Type 0 where
  pub read : Gives (λ done. new) answer meant
  pub declares : IfOk answer (λ done. AddsLocals old new)

-- what a form at a place means, after the primitives before it
abbrev pub with_form : List Primitive → Bool → ℕ → Result (Option Primitive) ParseFault
    → Result (List Primitive × Bool) ParseFault
with_form ks has_new at m = counted (length ks) has_new at m >>= λ k. Ok (ks ++ before k [], has_new || allocates k)

-- what stands before the operations, as the definitions have it
abbrev pub front_of : Front → FrontParts
front_of f = (f.declared, f.observer, f.ghosts, f.init)
