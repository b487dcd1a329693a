use Rattle.std.proofs.Common.{refl}
use Rattle.plc_mem.specs.Undoing.{without_last_retired}
use Rattle.plc_mem.proofs.memory.Memory.remove_last_retired.Goals as goal

pub returns : goal.returns
unfolding without_last_retired
returns c = rw (c.pop-last.ensures.rest, c.self.inside.retired.ok.0, ← c.self.view_is) refl
