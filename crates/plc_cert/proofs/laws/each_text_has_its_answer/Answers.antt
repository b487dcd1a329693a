use Rattle.plc_cert.proofs.RoundTrip.{text_is_answered, line_is_answered}
use Rattle.plc_cert.proofs.laws.each_text_has_its_answer.Goals as goal

pub returns : goal.returns
returns c = λ cert h. (text_is_answered cert h, line_is_answered cert h)
