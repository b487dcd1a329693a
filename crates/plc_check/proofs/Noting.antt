-- What is known of obligations that were noted is so of those that are alike.
use Rattle.std.specs.Prelude.{◌≡◌, ◌++◌, ◌⊎◌, ℕ, List, [], ◌∷◌, Contains, Some, slice_get, length}
use Rattle.std.proofs.Common.{sym, subst, ◌∙◌, ◌<◌, arith}
use Rattle.std.proofs.lemmas.Option.{slice_get_within}
use Rattle.plc_base.proofs.Lists.{slice_left, slice_right}
use Rattle.plc_flow.specs.declared.flow.Flow.{Flow}
use Rattle.plc_logic.specs.declared.clause.Outline.{Outline}
use Rattle.plc_ground.specs.declared.terms.GroundSet.{GroundSet}
use Rattle.plc_ground.specs.declared.terms.Tree.{Tree}
use Rattle.plc_ground.specs.Trees.{HasModel, Closes, SplitsOnce}
use Rattle.plc_vocabulary.specs.declared.obligations.Obligation.{Obligation}
use Rattle.plc_oblig.specs.Outlines.{IsKept}
use Rattle.plc_oblig.specs.Alike.{IsNotedAs}
use Rattle.plc_oblig.proofs.OneSet.{more_noted}
use Rattle.plc_check.specs.Counterexamples.{NotedAreKept, NotedHaveTrees, IsTreeOf}

module _ (flow : Flow) (outline : Outline) (noted : List (Obligation × ℕ)) (o : Obligation) (at : ℕ) (alike : IsNotedAs flow outline noted o at) where
  pub alike_is_kept : NotedAreKept flow outline noted → IsKept flow outline o
  alike_is_kept kept m = kept (alike.0, at) alike.1 (subst HasModel alike.2 m)

  pub alike_has_tree : (trees : List Tree) → NotedHaveTrees flow outline trees noted → (t : Tree) × (slice_get trees at ≡ Some t) × IsTreeOf flow outline o t
  alike_has_tree trees have =
      let r = have (alike.0, at) alike.1 in
      let nodes = r.0.nodes in (
        r.0,
        r.1,
        record {
          closes = subst (λ (s : GroundSet). Closes s nodes) (sym alike.2) r.2.closes;
          once = subst (λ (s : GroundSet). SplitsOnce s ([] ∷ []) nodes) (sym alike.2) r.2.once;
          fits = r.2.fits;
        },
      )

  pub tree_within : (trees : List Tree) → NotedHaveTrees flow outline trees noted → at < length trees
  tree_within trees have = (let r = have (alike.0, at) alike.1 in slice_get_within trees at r.0 r.1)

  pub alike_tree : (trees : List Tree) (t : Tree) → NotedHaveTrees flow outline trees noted → slice_get trees at ≡ Some t → IsTreeOf flow outline o t
  alike_tree trees t have is =
      let r = alike_has_tree trees have in
      let one : r.0 ≡ t = let both : Some r.0 ≡ Some t = sym r.1 ∙ is in cc in
      subst (IsTreeOf flow outline o) one r.2

module _ (flow : Flow) (outline : Outline) where
  -- where nothing is noted, it all is kept and has its tree
  pub none_kept : NotedAreKept flow outline []
  none_kept x among = absurd (omega (arith, among.1))

  pub none_have : (trees : List Tree) → NotedHaveTrees flow outline trees []
  none_have trees x among = absurd (omega (arith, among.1))

  pub kept_noted : (old new : List (Obligation × ℕ)) (o : Obligation) (at : ℕ) → NotedAreKept flow outline old → IsKept flow outline o
      → ((x : Obligation × ℕ) → Contains new x → Contains old x ⊎ (x ≡ (o, at))) → NotedAreKept flow outline new
  kept_noted old new o at kept this more = more_noted (λ (x : Obligation × ℕ). IsKept flow outline x.0) old new (o, at) kept this more

  -- a tree more leaves those that there are where they are
  pub tree_more : (trees : List Tree) (t : Tree) (noted : List (Obligation × ℕ)) → NotedHaveTrees flow outline trees noted
      → NotedHaveTrees flow outline (trees ++ t ∷ []) noted
  tree_more trees t noted have x among = (let r = have x among in (r.0, slice_left trees (t ∷ []) x.1 r.0 r.1, r.2))

  pub tree_noted : (trees : List Tree) (t : Tree) (old new : List (Obligation × ℕ)) (o : Obligation) → NotedHaveTrees flow outline trees old
      → IsTreeOf flow outline o t → ((x : Obligation × ℕ) → Contains new x → Contains old x ⊎ (x ≡ (o, length trees)))
      → NotedHaveTrees flow outline (trees ++ t ∷ []) new
  tree_noted trees t old new o have this more =
      more_noted (λ (x : Obligation × ℕ). (u : Tree) × (slice_get (trees ++ t ∷ []) x.1 ≡ Some u) × IsTreeOf flow outline x.0 u)
      old new (o, length trees) (tree_more trees t old have) (t, slice_right trees (t ∷ []) 0 (length trees) (omega arith), this) more
