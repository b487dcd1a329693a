-- The letter follows from the events alone, whoever they are of.
use Rattle.plc_auto.proofs.Letters.{retired_for_all}
use Rattle.plc_auto.proofs.laws.retired_for_all_threads.Goals as goal

pub returns : goal.returns
returns c = retired_for_all
