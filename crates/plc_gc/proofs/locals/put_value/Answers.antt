use Rattle.std.proofs.Common.{Some, ap, set, ◌∙◌}
use Rattle.plc_base.specs.Tables.{put_at}
use Rattle.plc_gc.specs.State.{Locals}
use Rattle.plc_gc.proofs.Kept.{value_below, written_there}
use Rattle.plc_gc.proofs.locals.put_value.Goals as goal

pub returns-in-Some : goal.returns-in-Some
returns-in-Some c =
    ap (λ (l : Locals). set c.args.locals.now.items c.args.t (Some l)) c.set_value.ensures
    ∙ written_there c.args.locals.now.items c.args.t c.in-Some.l c.index_mut.result.now (λ (l : Locals). record l { values = put_at 0 l.values c.args.x c.args.n }) (value_below c.args.locals.now.items c.args.t c.args.x c.requires) c.index_mut.ensures.value c.in-Some.is
