use Rattle.plc_html.proofs.Plain.{text_is_plain}
use Rattle.plc_html.proofs.escaping.escaped_text_has_no_markup.Goals as goal

pub returns : goal.returns
returns c bytes = text_is_plain bytes
