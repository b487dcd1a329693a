-- What else tokens are answered with than the unit that they spell, and that the answer is one.
use Rattle.std.specs.Prelude.{◌≡◌, ◌≢◌, ◌+◌, ℕ, List, Result, Err}
use Rattle.plc_lex.specs.declared.token.Token.{Token}
use Rattle.plc_base.specs.declared.limits.What1.TheVariants as limits
use Rattle.plc_base.specs.Limits.{most}
use Rattle.plc_syntax.specs.Syntax.{kinds}
use Rattle.plc_syntax.specs.Stops.{SyntaxFaultAt, NestingFaultAt}
use Rattle.plc_scope.specs.declared.fault.ParseFault.{ParseFault}
use Rattle.plc_scope.specs.declared.fault.ParseFault.TheVariants as faults
use Rattle.plc_parse.specs.declared.unit.Unit.{Unit as FileUnit}
use Rattle.plc_parse.specs.Units.{Means, AreRead, IsUnitOf}

-- the fault that tokens are answered with; memory may run out anywhere
pub data IsFaultOf (ts : List Token) (e : ParseFault) : Type 0 where
  no_file : (at : ℕ) → e ≡ faults.Syntax at → SyntaxFaultAt (kinds ts) at → IsFaultOf ts e
  too_deep : (at : ℕ) → e ≡ faults.Limit limits.Nesting (most limits.Nesting + 1) → NestingFaultAt (kinds ts) at
      → IsFaultOf ts e
  no_unit : AreRead ts (Err e) → IsFaultOf ts e
  no_memory : e ≡ faults.Memory → IsFaultOf ts e

-- tokens mean one thing, so they spell at most one unit
abbrev pub UnitsAreUnique : Type 0
UnitsAreUnique = (ts : List Token) (a b : Result FileUnit ParseFault) → Means ts a → Means ts b → a ≡ b

-- of syntax, nesting and meaning tokens have at most one fault, and no unit beside it: what they are due is a
-- function of them, but for memory
pub record FaultsAreOne : Type 0 where
  pub one : (ts : List Token) (e f : ParseFault) → e ≢ faults.Memory → f ≢ faults.Memory → IsFaultOf ts e
      → IsFaultOf ts f → e ≡ f
  pub no_unit : (ts : List Token) (e : ParseFault) (u : FileUnit) → e ≢ faults.Memory → IsFaultOf ts e → IsUnitOf ts u
      → ⊥
