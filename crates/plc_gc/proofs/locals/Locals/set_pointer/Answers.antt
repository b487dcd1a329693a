use Rattle.std.proofs.Common.{sym, ap}
use Rattle.plc_gc.specs.State.{null_pointer}
use Rattle.plc_gc.specs.contracts.locals.Locals.{the_view}
use Rattle.plc_base.proofs.Tables.{put_is_set}
use Rattle.plc_gc.proofs.locals.Locals.set_pointer.Goals as goal

pub returns : goal.returns
returns c =
    let h = rw (← c.self.view_is) at c.requires in
    rw (← c.self.view_is) (ap (λ xs. record (the_view c.self.inside) { pointers = xs })
    (sym (put_is_set null_pointer c.self.inside.pointers.items c.args.v c.args.p h)))
