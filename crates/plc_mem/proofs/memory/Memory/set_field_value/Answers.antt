use Rattle.plc_mem.specs.State.{put_field_value}
use Rattle.plc_mem.proofs.memory.Memory.set_field_value.Goals as goal

pub returns : goal.returns
unfolding put_field_value
returns c = c.set_entry.ensures
