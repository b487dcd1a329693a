-- Every table moves a thread by its own events and by those that name the address alone.
use Rattle.plc_auto.proofs.Histories.{far_moves_nothing}
use Rattle.plc_auto.proofs.laws.far_events_move_nothing.Goals as goal

pub returns : goal.returns
returns c = far_moves_nothing
