use Rattle.plc_oblig.proofs.Opposites.{untouched_is_kept}
use Rattle.plc_oblig.proofs.touching.untouched_obligations_are_kept.Goals as goal

pub returns : goal.returns
returns c flow outline o = untouched_is_kept flow outline o
