-- A history longer by one event leads its location one edge further.
use Rattle.plc_auto.proofs.Histories.{follow}
use Rattle.plc_auto.proofs.laws.locations_follow_histories.Goals as goal

pub returns : goal.returns
returns c = follow
