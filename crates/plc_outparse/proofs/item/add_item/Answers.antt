use Rattle.plc_outparse.proofs.item.add_item.Goals as goal

pub returns-in-Invariant : goal.returns-in-Invariant
returns-in-Invariant c = rw c.in-Invariant.is (c.add_invariant.ensures _ _)
