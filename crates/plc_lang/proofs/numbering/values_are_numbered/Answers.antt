use Rattle.plc_lang.proofs.Numbers.{values_are_numbered}
use Rattle.plc_lang.proofs.numbering.values_are_numbered.Goals as goal

pub returns : goal.returns
returns c = values_are_numbered
