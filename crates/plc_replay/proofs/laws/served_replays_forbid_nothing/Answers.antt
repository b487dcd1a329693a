use Rattle.plc_replay.proofs.Forbidding.{never_forbidden}
use Rattle.plc_replay.proofs.laws.served_replays_forbid_nothing.Goals as goal

pub returns : goal.returns
returns c = λ flow o schemes m s. never_forbidden flow o schemes m s
