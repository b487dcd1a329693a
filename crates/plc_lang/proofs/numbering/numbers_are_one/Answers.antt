use Rattle.plc_lang.proofs.Numbers.{numbers_are_one}
use Rattle.plc_lang.proofs.numbering.numbers_are_one.Goals as goal

pub returns : goal.returns
returns c = numbers_are_one
