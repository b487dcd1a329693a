use Rattle.plc_oblig.proofs.Opposites.{still_is_kept}
use Rattle.plc_oblig.proofs.stillness.still_obligations_are_kept.Goals as goal

pub returns : goal.returns
returns c flow outline o = still_is_kept flow outline o
