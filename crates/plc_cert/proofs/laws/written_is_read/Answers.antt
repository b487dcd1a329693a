use Rattle.plc_cert.proofs.RoundTrip.{written_is_read}
use Rattle.plc_cert.proofs.laws.written_is_read.Goals as goal

pub returns : goal.returns
returns c = written_is_read
