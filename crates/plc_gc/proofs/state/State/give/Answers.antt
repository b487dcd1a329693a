use Rattle.std.proofs.Common.{sym, ap, None}
use Rattle.plc_gc.specs.State.{with_locals}
use Rattle.plc_gc.specs.contracts.state.State.{the_view}
use Rattle.plc_base.proofs.Tables.{put_is_set}
use Rattle.plc_gc.proofs.state.State.give.Goals as goal

pub returns : goal.returns
unfolding with_locals
returns c = let h = rw (← c.self.view_is) at c.requires in rw (← c.self.view_is) (ap (λ xs. record (the_view c.self.inside) { locals = xs }) (sym (put_is_set None c.self.inside.locals.items c.args.t c.args.l h)))
