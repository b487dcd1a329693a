use Rattle.plc_check.proofs.Readable.{read_and_valid}
use Rattle.plc_check.proofs.laws.certificates_are_verified.Goals as goal

pub returns : goal.returns
returns c = read_and_valid
