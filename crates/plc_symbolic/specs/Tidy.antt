-- Lists of terms that noting leads to, and places that are read back from them.
use Rattle.std.specs.Prelude.{◌≡◌, ℕ, ◌<◌, List, length, map, Some, slice_get, slice_index_or}
use Rattle.plc_ground.specs.declared.terms.Map.{Map}
use Rattle.plc_ground.specs.declared.terms.Lit.{Lit}
use Rattle.plc_symbolic.specs.declared.symbolic.NodeTerm.{NodeTerm}
use Rattle.plc_symbolic.specs.declared.symbolic.SymbolicTerm.{SymbolicTerm}
use Rattle.plc_symbolic.specs.declared.symbolic.SymbolicTerm.TheVariants.{Application}
use Rattle.plc_symbolic.specs.declared.symbolic.SymbolicLit.{SymbolicLit}
use Rattle.plc_symbolic.specs.Terms.{term_of, null}
use Rattle.plc_symbolic.specs.Numbering.{Drafted, place}

-- no term stands twice, and each argument stands before what is applied to it
pub record IsTidy (ts : List SymbolicTerm) : Type 0 where
  pub distinct : (k : ℕ) (t : SymbolicTerm) → slice_get ts k ≡ Some t → place ts t ≡ k
  pub arguments : (k : ℕ) (m : Map) (v : ℕ) (n : NodeTerm) → slice_get ts k ≡ Some (Application m v n)
      → place ts (term_of n) < k

-- ---- places read back

-- both places of a literal are inside the list
pub record IsInside (ts : List SymbolicTerm) (l : Lit) : Type 0 where
  pub left : l.left < length ts
  pub right : l.right < length ts

-- the literal between the terms at these places, and the draft of such clauses
abbrev pub read : List SymbolicTerm → Lit → SymbolicLit
read ts l = record {
  left = slice_index_or ts l.left null;
  right = slice_index_or ts l.right null;
  equal = l.equal;
}

abbrev pub read_draft : List SymbolicTerm → List (List Lit) → Drafted
read_draft ts cs = record { terms = ts; clauses = map (map (read ts)) cs }
