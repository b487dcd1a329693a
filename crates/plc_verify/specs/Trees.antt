-- The items of the trees in the order in which they are judged, and the first that fails.
use Rattle.std.specs.Prelude.{◌≡◌, ◌<◌, ℕ, List, [], ◌∷◌, length, slice_get, Some}
use Rattle.plc_flow.specs.declared.flow.Flow.{Flow}
use Rattle.plc_logic.specs.declared.clause.Outline.{Outline}
use Rattle.plc_ground.specs.declared.terms.Tree.{Tree}
use Rattle.plc_ground.specs.Trees.{Closes, FirstBad}
use Rattle.plc_vocabulary.specs.declared.obligations.Obligation.{Obligation}
use Rattle.plc_oblig.specs.Obligations.{obligations}
use Rattle.plc_oblig.specs.GroundSets.{ground_set}
use Rattle.plc_verify.specs.declared.fault.VerifyFault.{VerifyFault}
use Rattle.plc_verify.specs.declared.fault.VerifyFault.TheVariants.{Version, EnvCount, EnvAt, EntryAt, TypeAt, FlowAt}
use Rattle.plc_verify.specs.declared.fault.VerifyFault.TheVariants.{TreeCount, TreeAt, Memory}
use Rattle.plc_verify.specs.Environments.{AreOther}

-- the tree with this number closes the ground set of the obligation with this number
abbrev pub ClosesAt : Flow → Outline → List Tree → ℕ → Type 0
ClosesAt flow outline trees i =
    (o : Obligation) (t : Tree) → slice_get (obligations flow outline) i ≡ Some o → slice_get trees i ≡ Some t
    → Closes (ground_set flow outline o) t.nodes

-- one tree for each obligation, in order, which closes its ground set
pub record TreesClose (flow : Flow) (outline : Outline) (trees : List Tree) : Type 0 where
  pub one_each : length trees ≡ length (obligations flow outline)
  pub closed : (i : ℕ) → ClosesAt flow outline trees i

-- the first tree that doesn't close the ground set of its obligation, and its first bad node
pub record FailsAtTree (flow : Flow) (outline : Outline) (trees : List Tree) (i node : ℕ) : Type 0 where
  pub one_each : length trees ≡ length (obligations flow outline)
  pub before : (j : ℕ) → j < i → ClosesAt flow outline trees j
  pub obligation : Obligation
  pub obligation_is : slice_get (obligations flow outline) i ≡ Some obligation
  pub tree : Tree
  pub tree_is : slice_get trees i ≡ Some tree
  pub fails : FirstBad (ground_set flow outline obligation) ([] ∷ []) tree.nodes node

-- the first item of the trees that fails
abbrev pub IsTreeFault : Flow → Outline → List Tree → VerifyFault → Type 0
IsTreeFault flow outline trees (TreeCount have want) =
    AreOther have want (length trees) (length (obligations flow outline))
IsTreeFault flow outline trees (TreeAt obligation node) = FailsAtTree flow outline trees obligation node
IsTreeFault flow outline trees (Version have want) = ⊥
IsTreeFault flow outline trees (EnvCount have want) = ⊥
IsTreeFault flow outline trees (EnvAt point) = ⊥
IsTreeFault flow outline trees (EntryAt op var) = ⊥
IsTreeFault flow outline trees (TypeAt step prim) = ⊥
IsTreeFault flow outline trees (FlowAt step var) = ⊥
IsTreeFault flow outline trees Memory = ⊥
