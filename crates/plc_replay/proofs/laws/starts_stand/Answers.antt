use Rattle.plc_replay.proofs.Taking.{start_stands}
use Rattle.plc_replay.proofs.laws.starts_stand.Goals as goal

pub returns : goal.returns
returns c = start_stands
