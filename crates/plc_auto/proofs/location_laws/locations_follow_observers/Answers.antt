use Rattle.plc_auto.proofs.Unheard.{observers_follow}
use Rattle.plc_auto.proofs.location_laws.locations_follow_observers.Goals as goal

pub returns : goal.returns
returns c = observers_follow
