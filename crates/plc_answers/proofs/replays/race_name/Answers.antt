use Rattle.std.proofs.Common.{ap, sym}
use Rattle.plc_answers.specs.Replays.{race_name}
use Rattle.plc_answers.proofs.replays.race_name.Goals as goal

pub returns-in-Pass : goal.returns-in-Pass
returns-in-Pass c = ap race_name (sym c.in-Pass.is)
