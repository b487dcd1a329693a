use Rattle.std.proofs.Common.{◌<◌, length, get_or, refl, arith}
use Rattle.std.proofs.lemmas.Option.{slice_get-get_or}
use Rattle.plc_base.specs.declared.ids.PointId.{PointId}
use Rattle.plc_flow.proofs.Indexed.{rows_more}
use Rattle.plc_flow.proofs.steps_by_point.StepsByPoint.new.Goals as goal

pub loop-k-preserved : goal.loop-k-preserved
loop-k-preserved c =
    let firsts = c.args.firsts.now in
    let k = c.loop-k.k in
    let none : PointId = record { 0 = 0 } in
    let first = get_or firsts k none in
    let inside : k < length firsts = omega arith in
    rows_more c.args.points firsts k first none c.loop-k.rows.items c.index_mut.result.now c.push.new.self inside refl (c.requires.within k first (slice_get-get_or firsts k none inside)) c.loop-k.invariant c.index_mut.ensures.value c.in_ok-push.ensures.ok
