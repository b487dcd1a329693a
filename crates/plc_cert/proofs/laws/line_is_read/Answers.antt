use Rattle.plc_cert.proofs.RoundTrip.{line_is_read}
use Rattle.plc_cert.proofs.laws.line_is_read.Goals as goal

pub returns : goal.returns
returns c = line_is_read
