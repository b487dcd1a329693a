use Rattle.plc_print.proofs.Lexing.{text_is_read_back}
use Rattle.plc_print.proofs.ReadBack.{texts_read_back}
use Rattle.plc_print.proofs.laws.canonical_texts_read_back.Goals as goal

pub returns : goal.returns
returns c = texts_read_back text_is_read_back
