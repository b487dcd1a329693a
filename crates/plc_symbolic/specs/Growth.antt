-- Words of private functions: how a list of terms grows, and which arguments stand in it.
use Rattle.std.specs.Prelude.{◌≡◌, ◌≤◌, ℕ, List, length, slice_get, Some}
use Rattle.plc_ground.specs.declared.terms.Map.{Map}
use Rattle.plc_symbolic.specs.declared.symbolic.NodeTerm.{NodeTerm}
use Rattle.plc_symbolic.specs.declared.symbolic.SymbolicTerm.{SymbolicTerm}
use Rattle.plc_symbolic.specs.declared.symbolic.SymbolicTerm.TheVariants.{Constant, Application}
use Rattle.plc_symbolic.specs.Terms.{term_of}
use Rattle.plc_symbolic.specs.Numbering.{place, IsListed}

-- a term is an application to a node
abbrev pub IsAppliedTo : NodeTerm → SymbolicTerm → Type 0
IsAppliedTo node t = (m : Map) × (v : ℕ) × (t ≡ Application m v node)

-- the argument of a term is listed
abbrev pub HasArgument : List SymbolicTerm → SymbolicTerm → Type 0
HasArgument ts (Constant s) = Unit {0}
HasArgument ts (Application m v n) = IsListed ts (term_of n)

-- what stands in the first list stands at the same places in the second
pub record Grows (ts us : List SymbolicTerm) : Type 0 where
  pub reads : (k : ℕ) (t : SymbolicTerm) → slice_get ts k ≡ Some t → slice_get us k ≡ Some t
  pub places : (t : SymbolicTerm) → IsListed ts t → place us t ≡ place ts t
  pub longer : length ts ≤ length us
