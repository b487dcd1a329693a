use Rattle.plc_auto.proofs.Watched.{threads_follow}
use Rattle.plc_auto.proofs.location_laws.locations_of_threads_follow.Goals as goal

pub returns : goal.returns
returns c = threads_follow
