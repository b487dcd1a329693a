use Rattle.plc_mem.specs.State.{put}
use Rattle.plc_mem.proofs.memory.Memory.set_field.Goals as goal

pub returns : goal.returns
unfolding put
returns c = c.set_entry.ensures
