use Rattle.plc_gc.proofs.Frames.{slot_stays}
use Rattle.plc_gc.proofs.state.State.write.Goals as goal

pub put-requires-2 : goal.put-requires-2
put-requires-2 c =
    rw (c.put.ensures, c.slot_of.ensures, c.mark_slot_of.ensures)
    (slot_stays c.args.self.now c.args.t c.args.p c.args.mark c.requires)
