use Rattle.std.proofs.Common.{◌<◌, length, subst, sym, arith}
use Rattle.plc_mem.specs.Coherence.{IsCoherent}
use Rattle.plc_mem.proofs.Coherence.{taken_coherent}
use Rattle.plc_mem.specs.contracts.memory.Memory.{the_view}
use Rattle.plc_mem.proofs.memory.Memory.take.Goals as goal

pub returns-then-t-len-clause-coherent : goal.returns-then-t-len-clause-coherent
returns-then-t-len-clause-coherent c = λ k.
    let h : c.args.t < length c.self.inside.locals.items = omega (arith, c.self.inside.locals.ok.0) in
    rw (c.take.ensures.value, c.take.ensures.after, c.index_mut.ensures.value) (taken_coherent (the_view c.self.inside) c.args.t _ h (subst IsCoherent (sym c.self.view_is) k))
