use Rattle.std.proofs.Common.{sym, ap}
use Rattle.plc_base.proofs.Tables.{put_is_set}
use Rattle.plc_mem.specs.State.{null_cell}
use Rattle.plc_mem.specs.contracts.node.Node.{the_view}
use Rattle.plc_mem.proofs.node.Node.set.Goals as goal

pub returns-in-Pointer : goal.returns-in-Pointer
returns-in-Pointer c =
    let h = rw (← c.self.view_is) at c.requires in
    rw (c.in-Pointer.is, ← c.self.view_is) (ap (λ xs. record (the_view c.self.inside) { cells = xs })
    (sym (put_is_set null_cell c.self.inside.cells.items c.args.f c.in-Pointer.c h.0)))

pub returns-in-Number : goal.returns-in-Number
returns-in-Number c =
    let h = rw (← c.self.view_is) at c.requires in
    rw (c.in-Number.is, ← c.self.view_is) (ap (λ xs. record (the_view c.self.inside) { values = xs })
    (sym (put_is_set 0 c.self.inside.values.items c.args.f c.in-Number.n h.1)))
