use Rattle.std.proofs.Common.{◌≤◌, length, ap, ◌∙◌, arith}
use Rattle.plc_flow.specs.Skeleton.{skeleton_of}
use Rattle.plc_suggest.specs.Spots.{spots_of}
use Rattle.plc_suggest.specs.Suggestions.{most_spots}
use Rattle.plc_suggest.proofs.Trying.{beside_ok}
use Rattle.plc_suggest.proofs.suggesting.suggest.Goals as goal

pub suggest_among-requires : goal.suggest_among-requires
suggest_among-requires c = record {
  well = c.requires.flow;
  shared = c.len.ensures;
  locals = c.as_slice.ensures.value ∙ c.in_ok-locals.ensures;
  entries = c.as_slice-2.ensures.value ∙ c.in_ok-entries.ensures;
  index = c.in_ok-index.ensures;
  spots = c.as_slice-3.ensures.value ∙ c.in_ok-spots.ensures.spots;
  few = let count = ap length c.as_slice-3.ensures.value in let few = c.in_ok-spots.ensures.few in omega
      (arith, count, few);
}

pub returns-clause-few : goal.returns-clause-few
returns-clause-few c =
    let count = ap length c.in_ok-spots.ensures.spots in
    let few = c.in_ok-spots.ensures.few in
    beside_ok c.suggest_among.result (length (spots_of (skeleton_of c.args.flow.now)) ≤ most_spots)
    (omega (arith, count, few))
