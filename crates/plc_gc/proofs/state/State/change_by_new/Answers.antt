use Rattle.plc_gc.specs.State.{made, locals_of}
use Rattle.plc_gc.proofs.state.State.change_by_new.Goals as goal

pub write-requires : goal.write-requires
unfolding made locals_of
write-requires c = rw c.in_ok-node.ensures.made c.requires

pub returns-clause-after : goal.returns-clause-after
returns-clause-after c = rw (c.in_ok-node.ensures.made, c.in_ok-node.ensures.node) at c.write.ensures
