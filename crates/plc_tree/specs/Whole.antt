-- How clauses say what an answer is due to, whichever tree it is.
use Rattle.std.specs.Prelude.{◌≡◌, ◌⊎◌, ◌+◌, ℕ, List, Result, Ok, Err}
use Rattle.plc_lex.specs.declared.token.TokenKind.{TokenKind}
use Rattle.plc_syntax.specs.Stops.{OutlineFaultAt}
use Rattle.plc_syntax.specs.declared.fault.Fault.{Fault}
use Rattle.plc_syntax.specs.declared.fault.Fault.TheVariants as faults

-- the answer is the wanted one only where the fact holds, and there it is the wanted one or memory ran out
pub record IsExactly {A E : Type 0} (memory : E) (answer wanted : Result A E) (fact : Type 0) : Type 0 where
  pub only : answer ≡ wanted → fact
  pub always : fact → (answer ≡ wanted) ⊎ (answer ≡ Err memory)

-- a value is answered only where the fact holds, and there one is answered or memory ran out
pub record IsReadWhere {A E : Type 0} (memory : E) (answer : Result A E) (fact : Type 0) : Type 0 where
  pub only : (x : A) → answer ≡ Ok x → fact
  pub always : fact → ((x : A) × (answer ≡ Ok x)) ⊎ (answer ≡ Err memory)

-- no outline stands at the front of tokens of which the first is at this place, and the fault is at the place with
-- which that is known, unless memory ran out
abbrev pub OutlineStops : ℕ → List TokenKind → Fault → Type 0
OutlineStops start ts (faults.Syntax at) = (place : ℕ) × OutlineFaultAt ts place × (at ≡ start + place)
OutlineStops start ts faults.Memory = Unit {0}
