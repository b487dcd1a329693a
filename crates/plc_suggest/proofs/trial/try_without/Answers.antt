use Rattle.std.proofs.Common.{◌≡◌, ℕ, ◌-◌, ◌<◌, List, ◌++◌, length, take, drop, sym, ap, subst, ◌∙◌, arith, length-append}
use Rattle.std.specs.Prelude.{◌⊎◌, Contains}
use Rattle.std.proofs.lemmas.List.{take_rest, length-drop}
use Rattle.std.proofs.lemmas.List.Elements.{All-take, All-drop, All-map, All-same}
use Rattle.plc_flow.specs.Skeleton.{skeleton_of}
use Rattle.plc_infer.specs.Resuming.{IsBegun}
use Rattle.plc_suggest.specs.declared.spot.Spot.{Spot}
use Rattle.plc_suggest.specs.Spots.{claims_at, marked}
use Rattle.plc_suggest.specs.Marking.{IsOfStep, steps_of}
use Rattle.plc_suggest.proofs.Listing.{spots_known}
use Rattle.plc_suggest.proofs.Begun.{begun_after}
use Rattle.plc_suggest.proofs.Chosen.{row_fewer}
use Rattle.plc_suggest.proofs.Deciding.{row_claims}
use Rattle.plc_suggest.proofs.trial.try_without.Goals as goal

pub resume_marked-requires : goal.resume_marked-requires
resume_marked-requires c =
    let p = c.args.parts.now in
    let s = skeleton_of p.flow.now in
    let n = length p.flow.now.steps in
    let kept = c.args.kept.now in
    let before = kept ++ drop c.args.at p.spots.now in
    let now = kept ++ drop c.args.after p.spots.now in
    let row = take (c.args.after - c.args.at) (drop c.args.at p.spots.now) in
    let changed : c.deref.result.now ≡ steps_of row = c.deref.ensures.value ∙ c.in_ok-changed.ensures in
    let known = spots_known p.flow.now p.spots.now c.requires.parts.spots in
    let left : take (length p.spots.now - c.args.after) (drop c.args.after p.spots.now) ≡ drop c.args.after p.spots.now
    = take_rest p.spots.now c.args.after in
    record {
      parts = c.requires.parts;
      first = c.requires.known;
      rest = All-take (IsOfStep n) (length p.spots.now - c.args.after) (drop c.args.after p.spots.now)
          (All-drop (IsOfStep n) c.args.after p.spots.now known);
      few = let few = c.requires.few in let order = c.requires.order in let within = c.requires.within in
          let count = ap length left in omega (
            arith,
            few,
            order,
            within,
            count,
            c.requires.parts.few,
            length-drop c.args.after p.spots.now,
            length-append kept (take (length p.spots.now - c.args.after) (drop c.args.after p.spots.now)),
          );
      known = All-same (λ (k : ℕ). k < n) c.deref.result.now (steps_of row) changed
          (All-map (λ (k : ℕ). k < n) (λ (x : Spot). x.step.0) row
          (All-take (IsOfStep n) (c.args.after - c.args.at) (drop c.args.at p.spots.now)
          (All-drop (IsOfStep n) c.args.at p.spots.now known)));
      begun = subst (λ (rest : List Spot). IsBegun p.observer.now (marked (kept ++ rest) s) c.args.envs.now.items
          c.deref.result.now) (sym left)
          (begun_after p.observer.now s now before c.args.envs.now.items c.deref.result.now
          (row_fewer kept p.spots.now c.args.at c.args.after c.requires.order)
          c.requires.reached.typing c.requires.reached.strongest
          (λ k small. subst (λ (ks : List ℕ). Contains ks k ⊎ (claims_at before k ≡ claims_at now k)) (sym changed)
          (row_claims kept p.spots.now c.args.at c.args.after k c.requires.order)));
    }
