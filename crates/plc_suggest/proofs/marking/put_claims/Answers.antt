use Rattle.std.proofs.Common.{List, [], ◌++◌, get_or, ap, ◌∙◌, arith}
use Rattle.std.proofs.lemmas.List.{take_all, get_or_default}
use Rattle.plc_suggest.specs.declared.spot.Spot.{Spot}
use Rattle.plc_suggest.specs.Spots.{claims_at}
use Rattle.plc_suggest.proofs.Defaults.{some_spot}
use Rattle.plc_suggest.proofs.Claiming.{no_claims, claims_put}
use Rattle.plc_suggest.proofs.marking.put_claims.Goals as goal

pub loop-spot-init : goal.loop-spot-init
loop-spot-init c = no_claims c.args.lists.now.items c.args.spots.now

pub index_mut-requires : goal.index_mut-requires
index_mut-requires c =
    let h = c.requires c.loop-spot.spot-index some_spot c.loop-spot-test.true in
    omega (arith, h, c.loop-spot.invariant.count)

pub loop-spot-preserved : goal.loop-spot-preserved
loop-spot-preserved c =
    let spots = c.args.spots.now in
    let i = c.loop-spot.spot-index in
    claims_put c.args.lists.now.items c.loop-spot.lists.items spots i (get_or spots i some_spot) c.index_mut.result.now
    c.push.new.self c.loop-spot-test.true
    (get_or_default spots i some_spot (get_or spots i some_spot) c.loop-spot-test.true)
    (c.requires i some_spot c.loop-spot-test.true) c.loop-spot.invariant c.index_mut.ensures.value
    c.in_ok-push.ensures.ok

pub returns : goal.returns
returns c = record {
  count = c.loop-spot.invariant.count;
  each = λ k small. c.loop-spot.invariant.each k small
      ∙ ap (λ (xs : List Spot). get_or c.args.lists.now.items k [] ++ claims_at xs k)
      (take_all c.loop-spot.spot-index c.args.spots.now (omega arith));
}
