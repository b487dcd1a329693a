-- What breaks obligations, and what shows that they are kept.
use Rattle.std.specs.Prelude.{◌≡◌, ◌++◌, ℕ, List, [], ◌∷◌, Option, Some, None, Contains, slice_get}
use Rattle.plc_flow.specs.declared.flow.Flow.{Flow}
use Rattle.plc_logic.specs.declared.clause.Outline.{Outline}
use Rattle.plc_vocabulary.specs.declared.obligations.Obligation.{Obligation}
use Rattle.plc_ground.specs.declared.terms.Tree.{Tree}
use Rattle.plc_ground.specs.Trees.{Closes, SplitsOnce}
use Rattle.plc_oblig.specs.Obligations.{obligations}
use Rattle.plc_oblig.specs.GroundSets.{ground_set}
use Rattle.plc_oblig.specs.Outlines.{IsKept, OutlineHolds, IsLeastOpen}
use Rattle.plc_cert.specs.Fits.{TreeFits}
use Rattle.plc_check.specs.declared.counterexample.Counterexample.{Counterexample}
use Rattle.plc_check.specs.declared.tree.Shown.{Shown}
use Rattle.plc_check.specs.declared.tree.Shown.TheVariants as shown
use Rattle.plc_check.specs.declared.tree.AllShown.{AllShown}
use Rattle.plc_check.specs.declared.tree.AllShown.TheVariants as all_shown
use Rattle.plc_check.specs.Open.{IsCounterexample}

-- what breaks this obligation, or none where it is kept
abbrev pub IsCounterexampleAt : Flow → Outline → Obligation → Option Counterexample → Type 0
IsCounterexampleAt flow outline o None = IsKept flow outline o
IsCounterexampleAt flow outline o (Some x) = (x.obligation ≡ o) × IsCounterexample flow outline x

-- what breaks the least obligation that isn't kept, or none where the outline holds
abbrev pub IsFirstCounterexample : Flow → Outline → Option Counterexample → Type 0
IsFirstCounterexample flow outline None = OutlineHolds flow outline
IsFirstCounterexample flow outline (Some x) = IsLeastOpen flow outline x.obligation × IsCounterexample flow outline x

-- each obligation that is noted is kept
abbrev pub NotedAreKept : Flow → Outline → List (Obligation × ℕ) → Type 0
NotedAreKept flow outline noted = (x : Obligation × ℕ) → Contains noted x → IsKept flow outline x.0

-- the tree closes the ground set of the obligation, no branch of it splits one clause twice, and its numbers have 32
-- bits
pub record IsTreeOf (flow : Flow) (outline : Outline) (o : Obligation) (t : Tree) : Type 0 where
  pub closes : Closes (ground_set flow outline o) t.nodes
  pub once : SplitsOnce (ground_set flow outline o) ([] ∷ []) t.nodes
  pub fits : TreeFits t

-- such a tree, or what breaks the obligation
abbrev pub IsShown : Flow → Outline → Obligation → Shown → Type 0
IsShown flow outline o (shown.Tree t) = IsTreeOf flow outline o t
IsShown flow outline o (shown.Broken x) = (x.obligation ≡ o) × IsCounterexample flow outline x

-- each obligation that is noted has the tree with its number
abbrev pub NotedHaveTrees : Flow → Outline → List Tree → List (Obligation × ℕ) → Type 0
NotedHaveTrees flow outline trees noted = (x : Obligation × ℕ) → Contains noted x
    → (t : Tree) × (slice_get trees x.1 ≡ Some t) × IsTreeOf flow outline x.0 t

-- a tree for the obligation, so that what is noted has trees among those that there are with it
abbrev pub AddsShown : Flow → Outline → Obligation → List Tree → List (Obligation × ℕ) → Shown → Type 0
AddsShown flow outline o trees noted (shown.Tree t) =
    IsTreeOf flow outline o t × NotedHaveTrees flow outline (trees ++ t ∷ []) noted
AddsShown flow outline o trees noted (shown.Broken x) = IsShown flow outline o (shown.Broken x)

-- one tree for each of these obligations, in order
abbrev pub AreTreesFor : Flow → Outline → List Obligation → List Tree → Type 0
AreTreesFor flow outline [] [] = Unit {0}
AreTreesFor flow outline [] (t ∷ ts) = ⊥
AreTreesFor flow outline (o ∷ os) [] = ⊥
AreTreesFor flow outline (o ∷ os) (t ∷ ts) = IsTreeOf flow outline o t × AreTreesFor flow outline os ts

-- one for each obligation, or what breaks the least that isn't kept
abbrev pub AreShown : Flow → Outline → AllShown → Type 0
AreShown flow outline (all_shown.Trees ts) = AreTreesFor flow outline (obligations flow outline) ts
AreShown flow outline (all_shown.Broken x) = IsLeastOpen flow outline x.obligation × IsCounterexample flow outline x
