use Rattle.plc_safety.proofs.Active.{active_words_agree}
use Rattle.plc_safety.proofs.laws.active_words_agree.Goals as goal

pub returns : goal.returns
returns c = active_words_agree
