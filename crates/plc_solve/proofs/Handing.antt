-- One turn of handing up a tree that closes the newest split's child, over the list of frames as the code has it: its
-- newest is last.
use Rattle.std.proofs.Common.{◌≡◌, ◌<◌, ◌≤◌, ℕ, List, [], ◌∷◌, ◌++◌, length, reverse, Some, refl, sym, ◌∙◌, ap, subst, arith}
use Rattle.std.specs.Prelude.{Contains, slice_get}
use Rattle.std.proofs.lemmas.Option.{slice_get_within}
use Rattle.plc_ground.specs.declared.terms.Lit.{Lit}
use Rattle.plc_ground.specs.declared.terms.Node.{Node}
use Rattle.plc_ground.specs.declared.terms.GroundSet.{GroundSet}
use Rattle.plc_ground.specs.Model.{literals}
use Rattle.plc_solve.specs.declared.frame.Frame.{Frame}
use Rattle.plc_solve.specs.declared.place.Place.{Place}
use Rattle.plc_solve.specs.Search.{splits, IsCutTo, GoesOn, Stands, ClosesTop, TakesTree, TakesCore}
use Rattle.plc_solve.specs.Measure.{left, left_below}
use Rattle.plc_solve.proofs.Needing.{lacks_own}
use Rattle.plc_solve.proofs.Places.{same_goes_on, taking_step, needless_step}
use Rattle.plc_base.proofs.Lists.{newest_first}

module _ (s : GroundSet) (old : Place) (f : Frame) (before rest : List Frame) (popped : before ≡ rest ++ f ∷ []) (core : List Lit) (tree : List Node)
    (h : Stands s old (reverse before)) (closes : ClosesTop s (splits old (reverse before)) core tree) where
  newest : reverse before ≡ f ∷ reverse rest
  newest = newest_first rest before f popped

  stood : Stands s old (f ∷ reverse rest)
  stood = subst (λ (fs : List Frame). Stands s old fs) newest h

  closed : ClosesTop s (splits old (f ∷ reverse rest)) core tree
  closed = subst (λ (fs : List Frame). ClosesTop s (splits old fs) core tree) newest closes

  pub clause_there : f.clause < length s.clauses
  clause_there = stood.stack.0.clause

  pub child_there : f.next < length (literals s f.clause)
  child_there = slice_get_within _ _ _ closed.is

  module _ (cut : Place) (c : IsCutTo f old cut) (own : Lit) (is : slice_get (literals s f.clause) f.next ≡ Some own) where
    here : GoesOn cut cut
    here = same_goes_on cut cut (record { branch = refl; class = refl; trail = refl })

    -- the split takes the tree
    pub taken : (g : Frame) (now : List Frame) → now ≡ rest ++ g ∷ [] → TakesCore f.core.items g.core.items own core → TakesTree f g tree →
        Stands s cut (reverse now) × ((base : ℕ) → left s base (splits cut (reverse now)) ≡ left_below s base (splits old (reverse before)))
    taken g now pushed tc t =
        let e = newest_first rest now g pushed in
        let step = taking_step s old cut cut f g (reverse rest) stood c here core tree closed own is tc t in (
          subst (λ (fs : List Frame). Stands s cut fs) (sym e) (step.0),
          λ base. ap (λ (fs : List Frame). left s base (splits cut fs)) e ∙ step.1 base ∙ ap (λ (fs : List Frame). left_below s base (splits old fs)) (sym newest),
        )

    -- the split is needless
    pub dropped : (Contains core own → ⊥) →
        Stands s cut (reverse rest) × ClosesTop s (splits cut (reverse rest)) core tree × ((base : ℕ) → left_below s base (splits cut (reverse rest)) ≤ left_below s base (splits old (reverse before)))
    dropped lacks =
        let step = needless_step s old cut cut f f (reverse rest) stood c here core tree closed (lacks_own (literals s f.clause) core f.next own is lacks) in
        (step.0, step.1, λ base. let fewer = step.2 base in let was = ap (λ (fs : List Frame). left_below s base (splits old fs)) newest in omega (arith, fewer, was))
