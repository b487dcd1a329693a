use Rattle.plc_outline_sound.proofs.Kept.{held_outlines}
use Rattle.plc_outline_sound.proofs.laws.held_outlines_are_true.Goals as goal

pub returns : goal.returns
returns c = held_outlines
