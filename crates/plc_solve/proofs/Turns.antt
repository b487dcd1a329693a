-- One turn of the search, over the list of frames as the code has it: its newest is last.
use Rattle.std.proofs.Common.{◌≡◌, ◌<◌, List, [], ◌∷◌, ◌++◌, reverse, refl, sym, ◌∙◌, ap, subst, arith}
use Rattle.plc_ground.specs.declared.terms.Node.TheVariants.{Split}
use Rattle.plc_ground.specs.declared.terms.GroundSet.{GroundSet}
use Rattle.plc_solve.specs.declared.frame.Frame.{Frame}
use Rattle.plc_solve.specs.declared.frame.Step.TheVariants.{Closed, Deeper, Complete}
use Rattle.plc_solve.specs.declared.place.Place.{Place}
use Rattle.plc_solve.specs.Search.{splits, split_on, IsCutTo, GoesOn, IsSound, Stands, ClosesTop, StepGives}
use Rattle.plc_solve.specs.Measure.{left, left_below, base_of}
use Rattle.plc_solve.proofs.Places.{cut_stands, closed_step, deeper_step, complete_step}
use Rattle.plc_base.proofs.Lists.{newest_first}

-- the newest frame is taken off a list, and the place is cut back to it
module _ (s : GroundSet) (old cut : Place) (f : Frame) (before rest : List Frame) (popped : before ≡ rest ++ f ∷ []) (h : Stands s old (reverse before)) (c : IsCutTo f old cut) where
  newest : reverse before ≡ f ∷ reverse rest
  newest = newest_first rest before f popped

  stood : Stands s old (f ∷ reverse rest)
  stood = subst (λ (fs : List Frame). Stands s old fs) newest h

  pub cut_is_sound : IsSound s (split_on cut.branch.items cut.equal.class f)
  cut_is_sound = (cut_stands s f (reverse rest) old cut stood c).stack.0

  module _ (new : Place) (g : Frame) (go : GoesOn cut new) where
    was : left s (base_of s) (splits old (reverse before)) ≡ left s (base_of s) (splits old (f ∷ reverse rest))
    was = ap (λ (fs : List Frame). left s (base_of s) (splits old fs)) newest

    -- the search stands at the frames that there are now, and has less left
    abbrev IsCloser : List Frame → Type 0
    IsCloser now = Stands s new (reverse now) × (left s (base_of s) (splits new (reverse now)) < left s (base_of s) (splits old (reverse before)))

    pub closed_turn : (now : List Frame) → now ≡ rest ++ g ∷ [] → StepGives s cut f g new Closed → IsCloser now
    closed_turn now pushed st =
        let next = closed_step s old cut new f g (reverse rest) stood c go st in
        let e = newest_first rest now g pushed in
        let less = next.1 in
        let same = ap (λ (fs : List Frame). left s (base_of s) (splits new fs)) e in
        (subst (λ (fs : List Frame). Stands s new fs) (sym e) (next.0), omega (arith, less, same, was))

    pub deeper_turn : (child : Frame) (between now : List Frame) → between ≡ rest ++ g ∷ [] → now ≡ between ++ child ∷ [] → StepGives s cut f g new (Deeper child) → IsCloser now
    deeper_turn child between now pushed last st =
        let next = deeper_step s old cut new f g (reverse rest) stood c go child st in
        let e = newest_first between now child last ∙ ap (λ (fs : List Frame). child ∷ fs) (newest_first rest between g pushed) in
        let less = next.1 in
        let same = ap (λ (fs : List Frame). left s (base_of s) (splits new fs)) e in
        (subst (λ (fs : List Frame). Stands s new fs) (sym e) (next.0), omega (arith, less, same, was))

    pub complete_turn : StepGives s cut f g new Complete →
        Stands s new (reverse rest)
        × ClosesTop s (splits new (reverse rest)) g.core.items (Split g.clause ∷ g.nodes.items)
        × (left_below s (base_of s) (splits new (reverse rest)) < left s (base_of s) (splits old (reverse before)))
    complete_turn st =
        let next = complete_step s old cut new f g (reverse rest) stood c go st (Split g.clause ∷ g.nodes.items) refl in
        let less = next.2 in
        (next.0, next.1, omega (arith, less, was))
