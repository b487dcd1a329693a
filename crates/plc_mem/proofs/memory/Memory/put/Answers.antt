use Rattle.std.proofs.Common.{subst, sym, None, Some, ap}
use Rattle.plc_mem.specs.State.{with_locals}
use Rattle.plc_mem.specs.contracts.memory.Memory.{the_view}
use Rattle.plc_base.proofs.Tables.{put_is_set}
use Rattle.plc_mem.specs.Coherence.{IsCoherent}
use Rattle.plc_mem.proofs.Coherence.{coherence}
use Rattle.plc_mem.proofs.memory.Memory.put.Goals as goal

pub returns-clause-given : goal.returns-clause-given
unfolding with_locals
returns-clause-given c = let h = rw (← c.self.view_is) at c.requires.below in rw (← c.self.view_is) (ap (λ xs. record (the_view c.self.inside) { locals = xs }) (sym (put_is_set None c.self.inside.locals.items c.args.t (Some c.args.l) h)))

pub returns-clause-coherent : goal.returns-clause-coherent
returns-clause-coherent c = λ mine k. subst IsCoherent (sym (returns-clause-given c)) (coherence.by_give c.args.self.now c.args.t c.args.l mine k)
