-- The splits of a place, where it is cut back and where it goes on.
use Rattle.std.proofs.Common.{◌≡◌, ◌<◌, ◌≤◌, ℕ, List, [], ◌∷◌, length, take, drop, Some, refl, sym, ◌∙◌, ap, subst, arith}
use Rattle.std.specs.Prelude.{Contains, slice_get}
use Rattle.std.proofs.lemmas.List.{length-append, length-take-le, take-take, take_all, take-append-le, append-nil}
use Rattle.plc_ground.specs.declared.terms.Lit.{Lit}
use Rattle.plc_ground.specs.declared.terms.Node.{Node}
use Rattle.plc_ground.specs.declared.terms.Node.TheVariants.{Split}
use Rattle.plc_ground.specs.declared.terms.GroundSet.{GroundSet}
use Rattle.plc_ground.specs.declared.equalities.Change.{Change}
use Rattle.plc_ground.specs.Model.{literals}
use Rattle.plc_ground.specs.Changes.{undone}
use Rattle.plc_ground.proofs.Changing.{extends_same, extends_back, extends_front, undone_from}
use Rattle.plc_solve.specs.declared.frame.Frame.{Frame}
use Rattle.plc_solve.specs.declared.frame.Step.TheVariants.{Closed, Deeper, Complete}
use Rattle.plc_solve.specs.declared.place.Place.{Place}
use Rattle.plc_solve.specs.Search.{OpenSplit, split_on, splits, AreNested, IsCutTo, IsSame, GoesOn, IsStack, Stands, ClosesTop, TakesTree, TakesCore, StepGives}
use Rattle.plc_solve.specs.Measure.{left, left_below, base_of}
use Rattle.plc_solve.proofs.Stacking.{leaf_taken, deeper_stacked, complete_closes, left_falls_complete, tree_taken, tree_left, needless_goes}

-- splits look alike from two places that agree up to the newest of them
splits_same : (old new : Place) (depth mark : ℕ) (fs : List Frame) → AreNested depth mark fs → ((n : ℕ) → n ≤ depth → take n new.branch.items ≡ take n old.branch.items) →
    ((n : ℕ) → n ≤ mark → undone (drop n new.equal.trail) new.equal.class ≡ undone (drop n old.equal.trail) old.equal.class) → splits new fs ≡ splits old fs
splits_same old new depth mark [] h b c = refl
splits_same old new depth mark (f ∷ fs) (dl, ml, h) b c =
    let rest = splits_same old new f.depth f.mark fs h (λ n le. b n (omega (arith, le, dl))) (λ n le. c n (omega (arith, le, ml))) in
    ap (λ (xs : List Lit). split_on xs (undone (drop f.mark new.equal.trail) new.equal.class) f ∷ splits new fs) (b f.depth dl)
    ∙ ap (λ (xs : List ℕ). split_on (take f.depth old.branch.items) xs f ∷ splits new fs) (c f.mark ml)
    ∙ ap (λ (t : List OpenSplit). split_on (take f.depth old.branch.items) (undone (drop f.mark old.equal.trail) old.equal.class) f ∷ t) rest

nested_more : (depth mark depth' mark' : ℕ) (fs : List Frame) → depth ≤ depth' → mark ≤ mark' → AreNested depth mark fs → AreNested depth' mark' fs
nested_more depth mark depth' mark' [] dl ml h = tt
nested_more depth mark depth' mark' (f ∷ fs) dl ml h = (omega (arith, dl, h.0), omega (arith, ml, h.1), h.2)

-- the splits of a place, of which the newest stands there
pub record StandsAt (s : GroundSet) (p : Place) (f : Frame) (fs : List Frame) : Type 0 where
  pub stack : IsStack s (split_on p.branch.items p.equal.class f ∷ splits p fs)
  pub depth : f.depth ≡ length p.branch.items
  pub mark : f.mark ≡ length p.equal.trail
  pub nested : AreNested f.depth f.mark fs

module _ (s : GroundSet) (f : Frame) (fs : List Frame) (old new : Place) (h : Stands s old (f ∷ fs)) (cut : IsCutTo f old new) where
  cut_below : splits new fs ≡ splits old fs
  cut_below = splits_same old new f.depth f.mark fs (h.nested.2) (λ n le. ap (take n) cut.branch ∙ take-take n f.depth old.branch.items le)
      (λ n le. ap (λ (t : List Change). undone (drop n t) new.equal.class) cut.trail ∙ ap (undone (drop n (take f.mark old.equal.trail))) cut.class
      ∙ sym (undone_from n f.mark old.equal.trail old.equal.class le (h.nested.1)))

  -- the splits are the same, seen from the newest
  pub cut_splits : splits old (f ∷ fs) ≡ split_on new.branch.items new.equal.class f ∷ splits new fs
  cut_splits =
      ap (λ (xs : List Lit). split_on xs (undone (drop f.mark old.equal.trail) old.equal.class) f ∷ splits old fs) (sym cut.branch)
      ∙ ap (λ (xs : List ℕ). split_on new.branch.items xs f ∷ splits old fs) (sym cut.class)
      ∙ ap (λ (t : List OpenSplit). split_on new.branch.items new.equal.class f ∷ t) (sym cut_below)

  pub cut_stands : StandsAt s new f fs
  cut_stands = record {
    stack = subst (IsStack s) cut_splits h.stack;
    depth = sym (ap length cut.branch ∙ length-take-le f.depth old.branch.items (h.nested.0));
    mark = sym (ap length cut.trail ∙ length-take-le f.mark old.equal.trail (h.nested.1));
    nested = h.nested.2;
  }

pub same_goes_on : (old new : Place) → IsSame old new → GoesOn old new
same_goes_on old new h = record { more = []; branch = h.branch ∙ sym (append-nil old.branch.items); equal = extends_same old.equal new.equal h.class h.trail }

module _ (old new : Place) (go : GoesOn old new) where
  longer : length old.branch.items ≤ length new.branch.items
  longer = let e = ap length go.branch in let n = length-append old.branch.items go.more in omega (arith, e, n)

  later : length old.equal.trail ≤ length new.equal.trail
  later = let e = ap length go.equal.trail in let n = length-append old.equal.trail go.equal.changes in omega (arith, e, n)

  -- the splits below are the same
  pub gone_below : (fs : List Frame) → AreNested (length old.branch.items) (length old.equal.trail) fs → splits new fs ≡ splits old fs
  gone_below fs h = splits_same old new (length old.branch.items) (length old.equal.trail) fs h (λ n le. ap (take n) go.branch ∙ take-append-le n old.branch.items go.more le)
      (λ n le. undone_from n (length old.equal.trail) new.equal.trail new.equal.class le later
      ∙ ap (λ (t : List Change). undone (drop n t) (undone (drop (length old.equal.trail) new.equal.trail) new.equal.class)) (extends_front old.equal new.equal go.equal)
      ∙ ap (undone (drop n old.equal.trail)) (extends_back old.equal new.equal go.equal))

  module _ (g : Frame) (fs : List Frame) (depth : g.depth ≡ length old.branch.items) (mark : g.mark ≡ length old.equal.trail) (nested : AreNested g.depth g.mark fs) where
    -- a split that stands at the old place, seen from the new one
    pub gone_splits : splits new (g ∷ fs) ≡ split_on old.branch.items old.equal.class g ∷ splits old fs
    gone_splits =
        let b : take g.depth new.branch.items ≡ old.branch.items =
        ap (take g.depth) go.branch ∙ take-append-le g.depth old.branch.items go.more (omega (arith, depth)) ∙ take_all g.depth old.branch.items (omega (arith, depth)) in
        let c : undone (drop g.mark new.equal.trail) new.equal.class ≡ old.equal.class =
        subst (λ n. undone (drop n new.equal.trail) new.equal.class ≡ old.equal.class) (sym mark) (extends_back old.equal new.equal go.equal) in
        let below = gone_below fs (nested_more _ _ _ _ fs (omega (arith, depth)) (omega (arith, mark)) nested) in
        ap (λ (xs : List Lit). split_on xs (undone (drop g.mark new.equal.trail) new.equal.class) g ∷ splits new fs) b
        ∙ ap (λ (xs : List ℕ). split_on old.branch.items xs g ∷ splits new fs) c
        ∙ ap (λ (t : List OpenSplit). split_on old.branch.items old.equal.class g ∷ t) below

    pub gone_stands : (s : GroundSet) → IsStack s (split_on old.branch.items old.equal.class g ∷ splits old fs) → Stands s new (g ∷ fs)
    gone_stands s h = record {
      nested = (omega (arith, depth, longer), omega (arith, mark, later), nested);
      stack = subst (IsStack s) (sym gone_splits) h;
    }

-- one step at the newest split, to which the place was cut back
module _ (s : GroundSet) (old cut new : Place) (f g : Frame) (fs : List Frame) (h : Stands s old (f ∷ fs)) (c : IsCutTo f old cut) (go : GoesOn cut new) where
  at_split : StandsAt s cut f fs
  at_split = cut_stands s f fs old cut h c

  same_left : left s (base_of s) (split_on cut.branch.items cut.equal.class f ∷ splits cut fs) ≡ left s (base_of s) (splits old (f ∷ fs))
  same_left = ap (left s (base_of s)) (sym (cut_splits s f fs old cut h c))

  -- a leaf closes the next child
  pub closed_step : StepGives s cut f g new Closed → Stands s new (g ∷ fs) × (left s (base_of s) (splits new (g ∷ fs)) < left s (base_of s) (splits old (f ∷ fs)))
  closed_step st =
      let t = st.1.2 in
      let next = leaf_taken s cut new f g (splits cut fs) at_split.stack st in
      let nested = subst (λ n. AreNested n g.mark fs) (sym t.depth) (subst (λ n. AreNested f.depth n fs) (sym t.mark) at_split.nested) in
      let less = next.1 in
      let same = ap (left s (base_of s)) (gone_splits cut new go g fs (t.depth ∙ at_split.depth) (t.mark ∙ at_split.mark) nested) in (
        gone_stands cut new go g fs (t.depth ∙ at_split.depth) (t.mark ∙ at_split.mark) nested s (next.0),
        omega (arith, less, same, same_left),
      )

  -- a child is split in turn
  pub deeper_step : (child : Frame) → StepGives s cut f g new (Deeper child) →
      Stands s new (child ∷ g ∷ fs) × (left s (base_of s) (splits new (child ∷ g ∷ fs)) < left s (base_of s) (splits old (f ∷ fs)))
  deeper_step child st =
      let same = st.0 in
      let next = deeper_stacked s cut new f g child (splits cut fs) at_split.stack st in
      let depth = ap (λ (x : Frame). x.depth) same ∙ at_split.depth in
      let mark = ap (λ (x : Frame). x.mark) same ∙ at_split.mark in
      let nested = subst (λ (x : Frame). AreNested x.depth x.mark fs) (sym same) at_split.nested in
      let here = same_goes_on new new (record { branch = refl; class = refl; trail = refl }) in
      let within : AreNested child.depth child.mark (g ∷ fs) =
      (omega (arith, st.1.depth, depth, longer cut new go), omega (arith, st.1.mark, mark, later cut new go), nested) in
      let below : splits new (child ∷ g ∷ fs) ≡ split_on new.branch.items new.equal.class child ∷ split_on cut.branch.items cut.equal.class g ∷ splits cut fs =
      gone_splits new new here child (g ∷ fs) st.1.depth st.1.mark within
      ∙ ap (λ (t : List OpenSplit). split_on new.branch.items new.equal.class child ∷ t) (gone_splits cut new go g fs depth mark nested) in
      let less = next.1 in
      let seen = ap (left s (base_of s)) below in (
        record {
          nested = (omega (arith, st.1.depth), omega (arith, st.1.mark), within);
          stack = subst (IsStack s) (sym below) (next.0);
        },
        omega (arith, less, seen, same_left),
      )

  below_same : splits new fs ≡ splits cut fs
  below_same = gone_below cut new go fs (nested_more _ _ _ _ fs (omega (arith, at_split.depth)) (omega (arith, at_split.mark)) at_split.nested)

  -- the splits above a split that is left
  above_stands : Stands s new fs
  above_stands = record {
    nested = nested_more _ _ _ _ fs (omega (arith, at_split.depth, longer cut new go)) (omega (arith, at_split.mark, later cut new go)) at_split.nested;
    stack = subst (IsStack s) (sym below_same) (at_split.stack.3);
  }

  -- every child is closed
  pub complete_step : StepGives s cut f g new Complete → (tree : List Node) → tree ≡ Split g.clause ∷ g.nodes.items →
      Stands s new fs × ClosesTop s (splits new fs) g.core.items tree × (left_below s (base_of s) (splits new fs) < left s (base_of s) (splits old (f ∷ fs)))
  complete_step st tree is =
      let closes = complete_closes s (split_on cut.branch.items cut.equal.class f) (splits cut fs) at_split.stack (st.1) in
      let whole : tree ≡ Split f.clause ∷ f.nodes.items = is ∙ ap (λ (x : Frame). Split x.clause ∷ x.nodes.items) (st.0) in
      let less = left_falls_complete s (base_of s) (split_on cut.branch.items cut.equal.class f) (splits cut fs) in
      let same = ap (left_below s (base_of s)) below_same in (
        above_stands,
        subst (λ (t : List OpenSplit). ClosesTop s t g.core.items tree) (sym below_same)
            (subst (λ (x : Frame). ClosesTop s (splits cut fs) x.core.items tree) (sym (st.0)) (subst (ClosesTop s (splits cut fs) f.core.items) (sym whole) closes)),
        omega (arith, less, same, same_left),
      )

  module _ (core : List Lit) (tree : List Node) (closes : ClosesTop s (splits old (f ∷ fs)) core tree) where
    closes_cut : ClosesTop s (split_on cut.branch.items cut.equal.class f ∷ splits cut fs) core tree
    closes_cut = subst (λ (t : List OpenSplit). ClosesTop s t core tree) (cut_splits s f fs old cut h c) closes

    -- the split takes the tree of its next child
    pub taking_step : (own : Lit) → slice_get (literals s f.clause) f.next ≡ Some own → TakesCore f.core.items g.core.items own core → TakesTree f g tree →
        Stands s new (g ∷ fs) × ((base : ℕ) → left s base (splits new (g ∷ fs)) ≡ left_below s base (splits old (f ∷ fs)))
    taking_step own is tc t =
        let nested = subst (λ n. AreNested n g.mark fs) (sym t.depth) (subst (λ n. AreNested f.depth n fs) (sym t.mark) at_split.nested) in (
          gone_stands cut new go g fs (t.depth ∙ at_split.depth) (t.mark ∙ at_split.mark) nested s
              (tree_taken s cut.branch.items cut.equal.class f g (splits cut fs) core tree at_split.stack closes_cut own is tc t),
          λ base. ap (left s base) (gone_splits cut new go g fs (t.depth ∙ at_split.depth) (t.mark ∙ at_split.mark) nested)
              ∙ tree_left s cut.branch.items cut.equal.class f g (splits cut fs) core tree closes_cut t base
              ∙ ap (left_below s base) (sym (cut_splits s f fs old cut h c)),
        )

    -- the tree stands in place of the split
    pub needless_step : ((l : Lit) → slice_get (literals s f.clause) f.next ≡ Some l → Contains core l → ⊥) →
        Stands s new fs × ClosesTop s (splits new fs) core tree × ((base : ℕ) → left_below s base (splits new fs) ≤ left_below s base (splits old (f ∷ fs)))
    needless_step lacks = (
      above_stands,
      subst (λ (t : List OpenSplit). ClosesTop s t core tree) (sym below_same)
          (needless_goes s (split_on cut.branch.items cut.equal.class f) (splits cut fs) core tree at_split.stack closes_cut lacks),
      λ base. let same = ap (left_below s base) below_same in let seen = ap (left_below s base) (cut_splits s f fs old cut h c) in omega (arith, same, seen),
    )
