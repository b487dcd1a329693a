use Rattle.std.proofs.Common.{sym, ap}
use Rattle.plc_gc.specs.contracts.row.Row.{the_view}
use Rattle.plc_base.proofs.Tables.{put_is_set}
use Rattle.plc_gc.proofs.row.Row.set.Goals as goal

pub returns-in-Number : goal.returns-in-Number
returns-in-Number c = let h = rw (c.in-Number.is, ← c.self.view_is) at c.requires in rw (c.in-Number.is, ← c.self.view_is) (ap (λ xs. record (the_view c.self.inside) { values = xs }) (sym (put_is_set 0 c.self.inside.values.items c.in-Number.f c.args.n h)))

pub returns-in-Auxiliary : goal.returns-in-Auxiliary
returns-in-Auxiliary c = let h = rw (c.in-Auxiliary.is, ← c.self.view_is) at c.requires in rw (c.in-Auxiliary.is, ← c.self.view_is) (ap (λ xs. record (the_view c.self.inside) { auxiliary = xs }) (sym (put_is_set 0 c.self.inside.auxiliary.items c.in-Auxiliary.h c.args.n h)))
