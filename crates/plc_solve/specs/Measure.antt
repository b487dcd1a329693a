-- A bound on the steps that a search has left: why it ends.
use Rattle.std.specs.Prelude.{◌+◌, ◌*◌, ◌-◌, ℕ, zero, suc, List, [], ◌∷◌, length, sum, sum_by}
use Rattle.plc_ground.specs.declared.terms.Lit.{Lit}
use Rattle.plc_ground.specs.declared.terms.GroundSet.{GroundSet}
use Rattle.plc_ground.specs.Model.{literals}
use Rattle.plc_solve.specs.Search.{OpenSplit}

-- how many steps a child of a split may take, at most: each split deeper has a lesser sum of classes
abbrev pub power : ℕ → ℕ → ℕ
power base zero = 1
power base (suc n) = base * power base n

-- how many steps a child of this split may take, by the sum of the classes that the branch above it has
abbrev pub weight : ℕ → OpenSplit → ℕ
weight base f = power base (sum f.class)

-- what is left of splits whose present child is counted elsewhere
abbrev pub left_below : GroundSet → ℕ → List OpenSplit → ℕ
left_below s base [] = 0
left_below s base (p ∷ fs) = 1 + (length (literals s p.clause) - (p.next + 1)) * weight base p + left_below s base fs

-- what is left of the splits of one branch, the newest first
abbrev pub left : GroundSet → ℕ → List OpenSplit → ℕ
left s base [] = 0
left s base (f ∷ fs) = 1 + (length (literals s f.clause) - f.next) * weight base f + left_below s base fs

-- more than the literals of any clause
abbrev pub base_of : GroundSet → ℕ
base_of s = sum_by (λ (ls : List Lit). length ls) s.clauses + 2
