use Rattle.std.proofs.Common.{refl, length}
use Rattle.plc_mem.proofs.Places.{nodes_fit_put}
use Rattle.plc_mem.proofs.memory.Memory.set_entry.Goals as goal

pub set-requires : goal.set-requires
set-requires c = let h = rw (← c.self.view_is) at c.requires in (length c.self.inside.fields.items, h, c.self.invariant)

pub invariant_of-self : goal.invariant_of-self
invariant_of-self c =
    let h = rw (← c.self.view_is) at c.requires in
    rw c.set.ensures (nodes_fit_put (length c.self.inside.fields.items) c.self.inside.nodes c.args.a c.args.f.0 c.args.entry c.self.invariant h)

pub returns : goal.returns
returns c = rw (c.set.ensures, ← c.self.view_is) refl
