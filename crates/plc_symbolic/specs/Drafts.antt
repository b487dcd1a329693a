-- Drafts as calls make them, and the sets that come of them.
use Rattle.std.specs.Prelude.{◌≡◌, ℕ, ◌<◌, ◌^◌, List, All, length, map}
use Rattle.plc_logic.specs.declared.clause.Sort.{Sort}
use Rattle.plc_ground.specs.declared.terms.Map.{Map}
use Rattle.plc_ground.specs.Fit.{IsWellFormed}
use Rattle.plc_symbolic.specs.declared.symbolic.NodeTerm.{NodeTerm}
use Rattle.plc_symbolic.specs.declared.symbolic.SymbolicTerm.{SymbolicTerm}
use Rattle.plc_symbolic.specs.declared.symbolic.SymbolicTerm.TheVariants.{Application}
use Rattle.plc_symbolic.specs.declared.symbolic.SymbolicLit.{SymbolicLit}
use Rattle.plc_symbolic.specs.Numbering.{Drafted, blank, listed, written, numbered}

-- listing terms and writing clauses leads to the draft
pub data IsDraft : Drafted → Type 0 where
  begun : IsDraft blank
  lists : (d : Drafted) (t : SymbolicTerm) → IsDraft d → IsDraft (listed d t)
  writes : (d : Drafted) (c : List SymbolicLit) → IsDraft d → IsDraft (written d c)

-- the sorts fit a draft: all applications of a map have one sort, and so have the two sides of a literal
pub record SortsFit (sort_of : SymbolicTerm → Sort) (d : Drafted) : Type 0 where
  pub maps : (m : Map) (v w : ℕ) (n k : NodeTerm) → sort_of (Application m v n) ≡ sort_of (Application m w k)
  pub sides : All (All (λ l. sort_of l.left ≡ sort_of l.right)) d.clauses

-- with sorts that fit, and fewer than 2^32 terms and clauses, the set of a draft keeps the rules of ground sets
abbrev pub DraftsAreWellFormed : Type 0
DraftsAreWellFormed = (d : Drafted) (sort_of : SymbolicTerm → Sort) → IsDraft d → SortsFit sort_of d
    → length d.terms < 2 ^ 32 → length d.clauses < 2 ^ 32 → IsWellFormed (numbered (map sort_of d.terms) d)
