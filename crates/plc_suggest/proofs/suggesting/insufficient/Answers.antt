use Rattle.std.proofs.Common.{refl}
use Rattle.plc_flow.specs.Skeleton.{skeleton_of}
use Rattle.plc_suggest.specs.Spots.{marked}
use Rattle.plc_suggest.proofs.Trying.{claims_before, counted_without}
use Rattle.plc_suggest.proofs.suggesting.insufficient.Goals as goal

pub overflow_sub-result : goal.overflow_sub-result
overflow_sub-result c =
    let p = c.args.parts.now in
    let s = skeleton_of p.flow.now in
    claims_before p.observer.now s (marked p.spots.now s) p.spots.now c.in-Stuck.step.0 c.in-Stuck.prim
    c.claims_of-claims.result c.in-Stuck.fault refl c.claims_of-claims.ensures
    (c.requires.stuck c.in-Stuck.step c.in-Stuck.prim c.in-Stuck.fault c.in-Stuck.is)

pub returns-in-Stuck-clause-suggested : goal.returns-in-Stuck-clause-suggested
returns-in-Stuck-clause-suggested c =
    let p = c.args.parts.now in
    let s = skeleton_of p.flow.now in
    counted_without p.observer.now s (marked p.spots.now s) p.spots.now c.in-Stuck.step.0 c.in-Stuck.prim
    c.claims_of-claims.result c.in-Stuck.fault refl c.requires.parts.spots c.claims_of-claims.ensures
    (c.requires.stuck c.in-Stuck.step c.in-Stuck.prim c.in-Stuck.fault c.in-Stuck.is)
