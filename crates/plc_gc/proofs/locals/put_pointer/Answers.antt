use Rattle.std.proofs.Common.{Some, ap, set, ◌∙◌}
use Rattle.plc_base.specs.Tables.{put_at}
use Rattle.plc_gc.specs.State.{Locals, null_pointer}
use Rattle.plc_gc.proofs.Kept.{pointer_below, written_there}
use Rattle.plc_gc.proofs.locals.put_pointer.Goals as goal

pub returns-in-Some : goal.returns-in-Some
returns-in-Some c =
    ap (λ (l : Locals). set c.args.locals.now.items c.args.t (Some l)) c.set_pointer.ensures
    ∙ written_there c.args.locals.now.items c.args.t c.in-Some.l c.index_mut.result.now
    (λ (l : Locals). record l { pointers = put_at null_pointer l.pointers c.args.v c.args.p })
    (pointer_below c.args.locals.now.items c.args.t c.args.v c.requires) c.index_mut.ensures.value c.in-Some.is
