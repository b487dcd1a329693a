-- Trees in the middle of a walk: one for each obligation that was handed out.
use Rattle.std.proofs.Common.{◌≡◌, ℕ, zero, suc, List, [], ◌∷◌, ◌++◌, length, slice_get, Some, refl, sym, ap, subst}
use Rattle.std.specs.Prelude.{All}
use Rattle.std.specs.List.{AllByRecursion}
use Rattle.std.proofs.lemmas.List.Elements.{All-nil, All-cons}
use Rattle.plc_flow.specs.declared.flow.Flow.{Flow}
use Rattle.plc_logic.specs.declared.clause.Outline.{Outline}
use Rattle.plc_ground.specs.declared.terms.Tree.{Tree}
use Rattle.plc_ground.proofs.Refuting.{closed_has_no_model}
use Rattle.plc_vocabulary.specs.declared.obligations.Obligation.{Obligation}
use Rattle.plc_oblig.specs.Obligations.{obligations}
use Rattle.plc_oblig.specs.GroundSets.{ground_set}
use Rattle.plc_oblig.specs.Outlines.{IsKept}
use Rattle.plc_cert.specs.Fits.{TreeFits}
use Rattle.plc_check.specs.Counterexamples.{IsTreeOf, AreTreesFor}
use Rattle.plc_check.proofs.SoFar.{SoFar, listed_more, listed_all}

module _ (flow : Flow) (outline : Outline) where
  -- of the obligations these are left, and the trees are those of the others
  pub record TreesSoFar (left : List Obligation) (ts : List Tree) : Type 0 where
    pub before : List Obligation
    pub listed : obligations flow outline ≡ before ++ left
    pub trees : AreTreesFor flow outline before ts

  pushed : (os : List Obligation) (ts : List Tree) (o : Obligation) (t : Tree) → AreTreesFor flow outline os ts
      → IsTreeOf flow outline o t → AreTreesFor flow outline (os ++ o ∷ []) (ts ++ t ∷ [])
  pushed [] [] o t m r = (r, tt)
  pushed [] (u ∷ ts) o t m r = absurd m
  pushed (p ∷ os) [] o t m r = absurd m
  pushed (p ∷ os) (u ∷ ts) o t m r = (m.0, pushed os ts o t m.1 r)

  pub no_trees : TreesSoFar (obligations flow outline) []
  no_trees = record { before = []; listed = refl; trees = tt }

  pub one_more : (left new : List Obligation) (ts : List Tree) (o : Obligation) (t : Tree) → TreesSoFar left ts
      → left ≡ o ∷ new → IsTreeOf flow outline o t → TreesSoFar new (ts ++ t ∷ [])
  one_more left new ts o t s e r = record {
    before = s.before ++ o ∷ [];
    listed = listed_more (obligations flow outline) s.before left new o s.listed e;
    trees = pushed s.before ts o t s.trees r;
  }

  pub all_trees : (left : List Obligation) (ts : List Tree) → TreesSoFar left ts → left ≡ [] → AreTreesFor flow outline (obligations flow outline) ts
  all_trees left ts s e =
      subst (λ (os : List Obligation). AreTreesFor flow outline os ts) (sym (listed_all (obligations flow outline) s.before left s.listed e)) s.trees

  kept_of : (os : List Obligation) (ts : List Tree) → AreTreesFor flow outline os ts → All (IsKept flow outline) os
  kept_of [] ts m = All-nil (IsKept flow outline)
  kept_of (o ∷ os) [] m = absurd m
  kept_of (o ∷ os) (t ∷ ts) m = All-cons (IsKept flow outline) o os (closed_has_no_model (ground_set flow outline o) t.nodes m.0.closes) (kept_of os ts m.1)

  -- obligations with trees are kept
  pub kept_so_far : (left : List Obligation) (ts : List Tree) → TreesSoFar left ts → SoFar (IsKept flow outline) (obligations flow outline) left
  kept_so_far left ts s = record { before = s.before; listed = s.listed; kept = kept_of s.before ts s.trees }

  pub trees_fit : (os : List Obligation) (ts : List Tree) → AreTreesFor flow outline os ts → AllByRecursion TreeFits ts
  trees_fit [] [] m = tt
  trees_fit [] (t ∷ ts) m = absurd m
  trees_fit (o ∷ os) [] m = absurd m
  trees_fit (o ∷ os) (t ∷ ts) m = (m.0.fits, trees_fit os ts m.1)

  -- one tree for each

  pub one_each : (os : List Obligation) (ts : List Tree) → AreTreesFor flow outline os ts → length ts ≡ length os
  one_each [] [] m = refl
  one_each [] (t ∷ ts) m = absurd m
  one_each (o ∷ os) [] m = absurd m
  one_each (o ∷ os) (t ∷ ts) m = ap suc (one_each os ts m.1)

  pub tree_of : (os : List Obligation) (ts : List Tree) (i : ℕ) (o : Obligation) (t : Tree) → AreTreesFor flow outline os ts
      → slice_get os i ≡ Some o → slice_get ts i ≡ Some t → IsTreeOf flow outline o t
  tree_of [] [] i o t m e f = absurd (cc)
  tree_of [] (u ∷ ts) i o t m e f = absurd m
  tree_of (p ∷ os) [] i o t m e f = absurd m
  tree_of (p ∷ os) (u ∷ ts) zero o t m e f =
      let first : p ≡ o = cc in
      let second : u ≡ t = cc in
      subst (λ x. IsTreeOf flow outline x t) first (subst (IsTreeOf flow outline p) second m.0)
  tree_of (p ∷ os) (u ∷ ts) (suc i) o t m e f = tree_of os ts i o t m.1 e f
