use Rattle.plc_print.proofs.Lexing.{text_is_read_back}
use Rattle.plc_print.proofs.laws.tokens_read_back.Goals as goal

pub returns : goal.returns
returns c = text_is_read_back
