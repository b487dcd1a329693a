-- The tree of a still obligation: its set ends with the negated conclusion, by which an instance of a premise is false.
use Rattle.std.specs.Prelude.{◌≡◌, ◌<◌, ◌-◌, ℕ, not, Some}
use Rattle.std.specs.Prelude.{List, [], ◌∷◌, ◌++◌, length, map, Contains}
use Rattle.std.specs.List.{range_with_len}
use Rattle.plc_flow.specs.declared.flow.Flow.{Flow}
use Rattle.plc_logic.specs.declared.clause.Clause.{Clause}
use Rattle.plc_logic.specs.declared.clause.Outline.{Outline}
use Rattle.plc_ground.specs.declared.terms.Lit.{Lit}
use Rattle.plc_ground.specs.declared.terms.Node.{Node}
use Rattle.plc_ground.specs.declared.terms.Node.TheVariants.{Split, Leaf}
use Rattle.plc_ground.specs.declared.terms.GroundSet.{GroundSet}
use Rattle.plc_ground.specs.Model.{literals}
use Rattle.plc_ground.specs.Fit.{IsWellFormed}
use Rattle.plc_ground.specs.Trees.{Closes, SplitsOnce}
use Rattle.plc_symbolic.specs.declared.symbolic.SymbolicLit.{SymbolicLit}
use Rattle.plc_symbolic.specs.Numbering.{number_lit}
use Rattle.plc_vocabulary.specs.declared.obligations.Obligation.{Obligation}
use Rattle.plc_vocabulary.specs.Parts.{conclusion}
use Rattle.plc_vocabulary.specs.Setting.{setting_of}
use Rattle.plc_encoding.specs.Execution.{start, after_all}
use Rattle.plc_encoding.specs.Items.{premises, instance_at, bound_nodes, denied}
use Rattle.plc_oblig.specs.GroundSets.{drafted, ground_set}

-- ---- sets that end with the opposites of an earlier clause's literals

-- the literal that is true where this one is false
abbrev pub opposite : Lit → Lit
opposite l = record { left = l.left; right = l.right; equal = not l.equal }

-- the opposite of each literal as a clause of its own
abbrev pub opposites : List Lit → List (List Lit)
opposites ls = map (λ l. opposite l ∷ []) ls

-- the set ends with the opposites of clause c, which stands before them
pub record IsRefuted (s : GroundSet) (c : ℕ) : Type 0 where
  pub before : List (List Lit)
  pub whole : s.clauses ≡ before ++ opposites (literals s c)
  pub earlier : c < length before

-- it does, and the clause has n literals: so the last n clauses are their opposites
pub record IsRefutedByLast (s : GroundSet) (n c : ℕ) : Type 0 where
  pub refuted : IsRefuted s c
  pub count : length (literals s c) ≡ n

-- ---- the clauses of an obligation

-- how many clauses the negated conclusion has; they stand last in the ground set
abbrev pub denied_count : Flow → Outline → Obligation → ℕ
denied_count flow outline o =
    let s = setting_of flow outline o in
    length (denied flow outline s (after_all start s.acts) o)

-- the instance of a clause at the names of the conclusion, before the step
abbrev pub instance_before : Flow → Outline → Obligation → Clause → List SymbolicLit
instance_before flow outline o c =
    let s = setting_of flow outline o in
    instance_at flow.file.ghosts s.makes s.owned c.literals (bound_nodes (length c.bound.names))

-- these literals of the ground set are the instance of the conclusion's clause, which is among the premises
pub record IsPremise (flow : Flow) (outline : Outline) (o : Obligation) (ls : List Lit) : Type 0 where
  pub clause : Clause
  pub concluded : conclusion flow outline o ≡ Some clause
  pub among : Contains (premises flow outline (setting_of flow outline o) o) (instance_before flow outline o clause)
  pub numbered : ls ≡ map (number_lit (drafted flow outline (setting_of flow outline o) o).terms)
      (instance_before flow outline o clause)

-- ---- the tree

-- a split on n clauses from number k on, one after the other
abbrev pub splits : ℕ → ℕ → List Node
splits k n = map Split (range_with_len k n)

-- a leaf for each literal, at its two terms
abbrev pub leaves : List Lit → List Node
leaves ls = map (λ l. Leaf l.left l.right) ls

-- splits on the last clauses, as many as clause c has literals, then on clause c, then the leaves
abbrev pub direct_nodes : GroundSet → ℕ → List Node
direct_nodes s c =
    let ls = literals s c in
    splits (length s.clauses - length ls) (length ls) ++ Split c ∷ leaves ls

-- the nodes split on all clauses of the negated conclusion, then on the premise at its place, and end with a leaf for
-- each of its literals
pub record IsDirect (flow : Flow) (outline : Outline) (o : Obligation) (nodes : List Node) : Type 0 where
  pub place : ℕ
  pub refuted : IsRefutedByLast (ground_set flow outline o) (denied_count flow outline o) place
  pub premise : IsPremise flow outline o (literals (ground_set flow outline o) place)
  pub whole : nodes ≡ direct_nodes (ground_set flow outline o) place

-- such nodes, which close the ground set of the obligation and split no clause twice on a branch; the set keeps the
-- rules of ground sets
pub record IsDirectTree (flow : Flow) (outline : Outline) (o : Obligation) (nodes : List Node) : Type 0 where
  pub shape : IsDirect flow outline o nodes
  pub well : IsWellFormed (ground_set flow outline o)
  pub closes : Closes (ground_set flow outline o) nodes
  pub once : SplitsOnce (ground_set flow outline o) ([] ∷ []) nodes
