use Rattle.std.proofs.Common.{◌≡◌, ◌+◌, ◌<◌, ◌++◌, List, length, Err, ap, subst, ◌∙◌, arith}
use Rattle.std.proofs.lemmas.Result.{err_from_is_err_and}
use Rattle.plc_suggest.specs.declared.spot.Spot.{Spot}
use Rattle.plc_suggest.specs.declared.suggestion.SuggestFault.TheVariants.{TooMany}
use Rattle.plc_suggest.specs.Suggestions.{most_spots}
use Rattle.plc_suggest.proofs.Listing.{spots_past, listed_first, listed_more, listed_too_many, read_from, step_read}
use Rattle.plc_suggest.proofs.spots.all_spots.Goals as goal

pub loop-k-init : goal.loop-k-init
loop-k-init c = record {
  listed = ap (λ (xs : List Spot). xs ++ spots_past c.args.flow.now 0) c.new-spots.ensures.items
      ∙ listed_first c.args.flow.now;
  few = let none = ap length c.new-spots.ensures.items in omega (arith, none);
}

pub bounds-locals-step : goal.bounds-locals-step
bounds-locals-step c =
    read_from c.args.flow.now c.args.locals.now c.as_slice-steps.result.now c.loop-k.k c.index-steps-k.result
    c.requires.flow c.requires.locals c.as_slice-steps.ensures c.loop-k-test.true c.index-steps-k.is

pub returns-in_err-add_spots-clause-too_many : goal.returns-in_err-add_spots-clause-too_many
returns-in_err-add_spots-clause-too_many c =
    let p = err_from_is_err_and c.from_residual.result c.from_residual.ensures.1 in
    let flow = c.args.flow.now in
    let r = step_read flow c.loop-k.k c.index-steps-k.result c.len-shared.result c.as_slice.result.now
    c.requires.locals c.as_slice-steps.ensures c.loop-k-test.true c.index-steps-k.is c.len-shared.ensures
    c.as_slice.ensures in
    rw (p.1, p.2) (λ count e.
    let is : c.in_err-add_spots.field-0.0 ≡ TooMany count = cc in
    let h = c.in_err-add_spots.ensures.too_many count (ap Err is) in
    let many = subst (λ (xs : List Spot). most_spots < length c.loop-k.spots.items + length xs) r.spots h.1 in
    (h.0, listed_too_many flow c.loop-k.k c.loop-k.spots.items r.inside many c.loop-k.invariant.listed))

pub loop-k-preserved : goal.loop-k-preserved
loop-k-preserved c =
    let flow = c.args.flow.now in
    let r = step_read flow c.loop-k.k c.index-steps-k.result c.len-shared.result c.as_slice.result.now
    c.requires.locals c.as_slice-steps.ensures c.loop-k-test.true c.index-steps-k.is c.len-shared.ensures
    c.as_slice.ensures in
    record {
      listed = listed_more flow c.loop-k.k c.loop-k.spots.items c.add_spots.new.spots.items r.inside
          (c.in_ok-add_spots.ensures.spots ∙ ap (λ (xs : List Spot). c.loop-k.spots.items ++ xs) r.spots)
          c.loop-k.invariant.listed;
      few = c.in_ok-add_spots.ensures.few;
    }
