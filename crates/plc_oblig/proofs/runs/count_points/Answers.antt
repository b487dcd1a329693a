use Rattle.std.proofs.Common.{◌++◌, ◌∷◌, [], take, ap, sym, ◌∙◌, arith}
use Rattle.std.proofs.lemmas.List.{length-set, take_more_set}
use Rattle.std.proofs.lemmas.List.FromFn.{map-range_with_len_more}
use Rattle.plc_vocabulary.specs.Points.{count_at}
use Rattle.plc_oblig.proofs.runs.count_points.Goals as goal

pub loop-p-preserved : goal.loop-p-preserved
loop-p-preserved c =
    let l = c.loop-p in
    let within = c.requires.flow_fits.well.few in (
      length-set l.counts l.p _ ∙ l.invariant.0,
      take_more_set l.counts l.p _ (omega (arith, within, l.invariant.0, c.loop-p-test.true))
          ∙ ap (λ n. take l.p l.counts ++ n ∷ []) c.count_at.ensures.count
          ∙ ap (λ ns. ns ++ count_at c.args.flow.now c.args.outline.now l.p ∷ []) l.invariant.1
          ∙ sym (map-range_with_len_more (count_at c.args.flow.now c.args.outline.now) 0 l.p l.p (omega arith)),
    )
